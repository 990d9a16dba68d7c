-- Lemmas on words before a comment, and on corners.
use Rattle.std.proofs.Common.{◌≡◌, ◌<◌, ◌≤◌, ◌+◌, ◌∙◌, ℕ, true, false, cond, List, [], ◌∷◌, ◌++◌, length, take}
use Rattle.std.proofs.Common.{drop, get_or, refl, ap, sym, append-nil, Err, arith}
use Rattle.std.proofs.lemmas.List.{take_more, drop_more, drop_all, take_all, append_assoc}
use Rattle.obj_reader.specs.Values.{uncommented, point_of}
use Rattle.obj_format.specs.Lines.{is_hash_first}
use Rattle.obj_format.specs.declared.obj_fault.ObjWhy.TheVariants.{BadNumber}

-- a word that stays
pub words_more : (ws : List (List ℕ)) (k : ℕ) (all : List (List ℕ)) → k < length ws
    → is_hash_first (get_or ws k []) ≡ false
    → take k ws ++ uncommented (drop k ws) ≡ all → take (k + 1) ws ++ uncommented (drop (k + 1) ws) ≡ all
words_more ws k all here stays before =
    ap (λ t. t ++ uncommented (drop (k + 1) ws)) (take_more ws k [] here)
    ∙ append_assoc (take k ws) (get_or ws k [] ∷ []) (uncommented (drop (k + 1) ws))
    ∙ ap (λ t. take k ws ++ t) (sym (ap uncommented (drop_more ws k [] here)
    ∙ ap (λ b. cond b [] (get_or ws k [] ∷ uncommented (drop (k + 1) ws))) stays))
    ∙ before

-- a word that begins a comment
pub words_stop : (ws : List (List ℕ)) (k : ℕ) (all : List (List ℕ)) → k < length ws
    → is_hash_first (get_or ws k []) ≡ true
    → take k ws ++ uncommented (drop k ws) ≡ all → take k ws ≡ all
words_stop ws k all here goes before =
    sym (append-nil (take k ws))
    ∙ ap (λ t. take k ws ++ t) (sym (ap uncommented (drop_more ws k [] here)
    ∙ ap (λ b. cond b [] (get_or ws k [] ∷ uncommented (drop (k + 1) ws))) goes))
    ∙ before

-- no word is left
pub words_all : (ws : List (List ℕ)) (k : ℕ) (all : List (List ℕ)) → length ws ≤ k
    → take k ws ++ uncommented (drop k ws) ≡ all → ws ≡ all
words_all ws k all past before =
    sym (take_all k ws past) ∙ sym (append-nil (take k ws))
    ∙ ap (λ t. take k ws ++ uncommented t) (sym (drop_all k ws past)) ∙ before

-- too few numbers
pub point_few : (scale : ℕ) (ws : List (List ℕ)) → length ws < 3 → point_of scale ws ≡ Err BadNumber
point_few scale [] few = refl
point_few scale (x ∷ []) few = refl
point_few scale (x ∷ y ∷ []) few = refl
point_few scale (x ∷ y ∷ z ∷ more) few = absurd (omega arith)
