use Rattle.std.proofs.Common.{◌≡◌, refl}
use Rattle.std.proofs.lemmas.Result.{IfOk-weaker}
use Rattle.mesh_model.specs.Complex.{Complex, fixed_layers}
use Rattle.obj_format.specs.Fixed.{BeginsFixed}
use Rattle.obj_tests.proofs.reading.read.Goals as goal

-- what has the fixed layers and no others begins with them
begins : (c : Complex) → c.layers ≡ fixed_layers → BeginsFixed c
begins c same = record { corners = rw same refl; faces = rw same refl }

pub returns-clause-fixed : goal.returns-clause-fixed
returns-clause-fixed c =
    IfOk-weaker c.end.result (λ (d : Complex). d.layers ≡ fixed_layers) (λ (d : Complex). BeginsFixed d) begins
    c.end.ensures.fixed
