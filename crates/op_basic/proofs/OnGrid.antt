-- A point is on the grid where each of its coordinates is.
use Rattle.std.proofs.Common.{◌≡◌, ℤ, Bool, true, false, cond, ◌&&◌, Some, None, refl}
use Rattle.std.proofs.lemmas.Bool.{and_parts}
use Rattle.mesh_model.specs.Valid.{is_in_range, is_on_grid}
use Rattle.mesh_model.specs.declared.records.Point.{Point}
use Rattle.op_basic.specs.Coordinates.{point_of}

pub joined : (a b c : Bool) (x y z : ℤ) → point_of (cond a (Some x) None) (cond b (Some y) None) (cond c (Some z) None)
    ≡ cond (a && (b && c)) (Some (record { x = x; y = y; z = z })) None
joined true true true x y z = refl
joined true true false x y z = refl
joined true false c x y z = refl
joined false b c x y z = refl

pub x_on_grid : (p : Point) → is_on_grid p ≡ true → is_in_range p.x ≡ true
x_on_grid p h = (and_parts (is_in_range p.x) (is_in_range p.y && is_in_range p.z) h).0

pub y_on_grid : (p : Point) → is_on_grid p ≡ true → is_in_range p.y ≡ true
y_on_grid p h = (and_parts (is_in_range p.y) (is_in_range p.z)
    (and_parts (is_in_range p.x) (is_in_range p.y && is_in_range p.z) h).1).0

pub z_on_grid : (p : Point) → is_on_grid p ≡ true → is_in_range p.z ≡ true
z_on_grid p h = (and_parts (is_in_range p.y) (is_in_range p.z)
    (and_parts (is_in_range p.x) (is_in_range p.y && is_in_range p.z) h).1).1

-- one coordinate alone decides where the others are on the grid
pub x_alone : (a : Bool) (x : ℤ) (p : Point) → is_on_grid p ≡ true
    → point_of (cond a (Some x) None) (Some p.y) (Some p.z)
    ≡ cond (a && (is_in_range p.y && is_in_range p.z)) (Some (record p { x = x })) None
x_alone true x p h = rw (y_on_grid p h, z_on_grid p h) refl
x_alone false x p h = refl

pub y_alone : (a : Bool) (y : ℤ) (p : Point) → is_on_grid p ≡ true
    → point_of (Some p.x) (cond a (Some y) None) (Some p.z)
    ≡ cond (is_in_range p.x && (a && is_in_range p.z)) (Some (record p { y = y })) None
y_alone true y p h = rw (x_on_grid p h, z_on_grid p h) refl
y_alone false y p h = rw (x_on_grid p h) refl

pub z_alone : (a : Bool) (z : ℤ) (p : Point) → is_on_grid p ≡ true
    → point_of (Some p.x) (Some p.y) (cond a (Some z) None)
    ≡ cond (is_in_range p.x && (is_in_range p.y && a)) (Some (record p { z = z })) None
z_alone true z p h = rw (x_on_grid p h, y_on_grid p h) refl
z_alone false z p h = rw (x_on_grid p h, y_on_grid p h) refl
