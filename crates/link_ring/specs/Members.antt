-- Members of a list. Both words go by recursion, so that they compute in a proof.
use Rattle.std.specs.Prelude.{◌≡◌, ◌⊎◌, ⊤, List, [], ◌∷◌}

-- k is one of the list
abbrev pub HasMember : {K : Type 0} → List K → K → Type 0
HasMember [] k = ⊥
HasMember (x ∷ xs) k = (x ≡ k) ⊎ HasMember xs k

-- no key stands twice in the list
abbrev pub AllDistinct : {K : Type 0} → List K → Type 0
AllDistinct [] = ⊤
AllDistinct (x ∷ xs) = (HasMember xs x → ⊥) × AllDistinct xs
