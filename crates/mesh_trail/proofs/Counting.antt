-- How many entries there are.
use Rattle.std.proofs.Common.{◌≡◌, suc, ◌+◌, cond, List, [], ◌∷◌, length, refl, ap, ◌∙◌, arith, Option, is_some}
use Rattle.std.specs.Ordering.{nat_cmp}
use Rattle.std.specs.Cmp.{nat_cmp_total}
use Rattle.std.specs.FinMap.{len, len-empty, len-insert}
use Rattle.mesh_trail.specs.declared.note_map.Entry.{Entry}
use Rattle.mesh_trail.specs.Tree.{names_of}
use Rattle.mesh_trail.proofs.Growth.{AreApart, get-absent}

-- entries of distinct names are as many notes
pub len-names_of : {R : Type 0} (es : List (Entry R)) → AreApart es → len (names_of es) ≡ length es
len-names_of {R = R} [] apart = len-empty nat_cmp (Option R)
len-names_of {R = R} (e ∷ es) apart =
    let rest = len-names_of es (λ j k d f at_j at_k same. let no =
    apart (suc j) (suc k) d f at_j at_k same in omega arith) in
    len-insert nat_cmp_total (names_of es) e.name e.was
    ∙ ap (λ (o : Option (Option R)). cond (is_some o) (len (names_of es)) (len (names_of es) + 1))
    (get-absent es e.name (λ i f at_i same. let no = apart (suc i) 0 f e at_i refl same in absurd (omega arith)))
    ∙ (omega arith)
