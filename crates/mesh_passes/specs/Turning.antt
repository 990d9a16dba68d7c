-- Faces turned over.
use Rattle.std.specs.Prelude.{List}
use Rattle.mesh_model.specs.Table.{changed_names}
use Rattle.mesh_model.specs.Complex.{Complex}
use Rattle.mesh_model.specs.Closure.{is_face_among}
use Rattle.mesh_model.specs.Kernel.{reversed}
use Rattle.mesh_model.specs.declared.names.FaceName.{FaceName}
use Rattle.mesh_model.specs.declared.records.FaceRec.{FaceRec}

-- the first corner stays first, the others follow in the opposite order, and each has the edge to its new next one
unfoldable pub turned_over : Complex → List FaceName → Complex
turned_over c fs = record c {
  faces = changed_names (λ n. is_face_among fs (record { 0 = n }))
      (λ (r : FaceRec). record r { corners = reversed r.corners }) c.faces;
}
