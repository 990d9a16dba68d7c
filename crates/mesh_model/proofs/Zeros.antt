-- Rows of zeros, and the values of an example: they fit the layers and are in range.
use Rattle.std.proofs.Common.{◌≡◌, ℕ, zero, suc, Bool, true, ℤ, pos, List, length, get_or, take, refl, ap, ◌∙◌, arith}
use Rattle.std.proofs.Common.{Option, Some, None, int_le}
use Rattle.std.specs.List.{list_all, position}
use Rattle.std.specs.Option.{option_map, option_map_or}
use Rattle.std.proofs.lemmas.Bool.{and_from, le-leb}
use Rattle.std.proofs.lemmas.List.{length-replicate}
use Rattle.cust_data.specs.Layers.{Layer, total, zeros}
use Rattle.mesh_model.specs.Table.{at, allows}
use Rattle.mesh_model.specs.Complex.{Complex, width}
use Rattle.mesh_model.specs.Values.{number_in, same_layer}
use Rattle.mesh_model.specs.Kernel.{vert_vals_like, edge_vals_like, face_vals_like}
use Rattle.mesh_model.specs.Valid.{is_in_range, is_material}
use Rattle.mesh_model.specs.declared.names.Kind.TheVariants.{Verts, Edges, Faces}
use Rattle.mesh_model.specs.declared.names.VertName.{VertName}
use Rattle.mesh_model.specs.declared.names.EdgeName.{EdgeName}
use Rattle.mesh_model.specs.declared.names.FaceName.{FaceName}
use Rattle.mesh_model.specs.declared.records.VertRec.{VertRec}
use Rattle.mesh_model.specs.declared.records.EdgeRec.{EdgeRec}
use Rattle.mesh_model.specs.declared.records.FaceRec.{FaceRec}

pub length-zeros : (n : ℕ) → length (zeros n) ≡ n
length-zeros n = length-replicate n (pos 0)

pub in_range-zeros : (n : ℕ) → list_all is_in_range (zeros n) ≡ true
in_range-zeros zero = refl
in_range-zeros (suc n) = in_range-zeros n

get_or-zeros : (n k : ℕ) → get_or (zeros n) k (pos 0) ≡ pos 0
get_or-zeros zero k = refl
get_or-zeros (suc n) zero = refl
get_or-zeros (suc n) (suc k) = get_or-zeros n k

-- a layer's number in zeros is 0, and passes where 0 does
pub allows-zeros : (test : ℤ → Bool) (layers : List Layer) (l : Layer) (n : ℕ) → test (pos 0) ≡ true
    → allows test (number_in layers l (zeros n)) ≡ true
allows-zeros test layers l n pass = either (position (same_layer l) layers)
  where
    either : (o : Option ℕ) → allows test (option_map (λ k. get_or (zeros n) (total (take k layers)) (pos 0)) o) ≡ true
    either None = refl
    either (Some k) = ap test (get_or-zeros n (total (take k layers))) ∙ pass

pub material-zero : (c : Complex) → is_material c (pos 0) ≡ true
material-zero c = and_from (int_le (pos 0) (pos 0)) (int_le (pos 0) (pos (length c.materials))) refl
    (le-leb 0 (length c.materials) (omega arith))

-- ---- THE VALUES OF AN EXAMPLE

-- a row is a property's where each record's is and zeros are
of_example : {X : Type 0} (P : List ℤ → Type 0) (row : X → List ℤ) (o : Option X) (zero_row : List ℤ) → P zero_row
    → ((x : X) → o ≡ Some x → P (row x)) → P (option_map_or row o zero_row)
of_example P row None zero_row h each = h
of_example P row (Some x) zero_row h each = each x refl

pub vert_vals_like-has : (P : List ℤ → Type 0) (c : Complex) (like : Option VertName) → P (zeros (width c Verts))
    → ((n : ℕ) (r : VertRec) → at c.verts n ≡ Some r → P r.vals) → P (vert_vals_like c like)
vert_vals_like-has P c None h each = h
vert_vals_like-has P c (Some v) h each =
    of_example P (λ (r : VertRec). r.vals) (at c.verts v.0) (zeros (width c Verts)) h (each v.0)

pub edge_vals_like-has : (P : List ℤ → Type 0) (c : Complex) (like : Option EdgeName) → P (zeros (width c Edges))
    → ((n : ℕ) (r : EdgeRec) → at c.edges n ≡ Some r → P r.vals) → P (edge_vals_like c like)
edge_vals_like-has P c None h each = h
edge_vals_like-has P c (Some e) h each =
    of_example P (λ (r : EdgeRec). r.vals) (at c.edges e.0) (zeros (width c Edges)) h (each e.0)

pub face_vals_like-has : (P : List ℤ → Type 0) (c : Complex) (like : Option FaceName) → P (zeros (width c Faces))
    → ((n : ℕ) (r : FaceRec) → at c.faces n ≡ Some r → P r.vals) → P (face_vals_like c like)
face_vals_like-has P c None h each = h
face_vals_like-has P c (Some f) h each =
    of_example P (λ (r : FaceRec). r.vals) (at c.faces f.0) (zeros (width c Faces)) h (each f.0)
