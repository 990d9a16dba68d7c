-- The layers that a complex begins with.
use Rattle.std.specs.Prelude.{◌≡◌, take}
use Rattle.mesh_model.specs.Complex.{Complex, fixed_layers}

-- the layers of corners and of faces begin with those that every model has from its beginning
pub record BeginsFixed (c : Complex) : Type 0 where
  pub corners : take 1 c.layers.corners ≡ fixed_layers.corners
  pub faces : take 2 c.layers.faces ≡ fixed_layers.faces
