-- A step of a pass: what the mesh is after one call, from what it was before it.
use Rattle.std.proofs.Common.{◌≡◌, ℕ, sym, ap, ◌∙◌, subst, Result, Ok, Err, OnOk}
use Rattle.mesh_model.specs.Table.{IsThere}
use Rattle.mesh_model.specs.Complex.{Complex}

-- what is there in an equal complex is there
pub vert_in : (m c : Complex) (n : ℕ) → m ≡ c → IsThere c.verts n → IsThere m.verts n
vert_in m c n is there = subst (λ (x : Complex). IsThere x.verts n) (sym is) there

pub edge_in : (m c : Complex) (n : ℕ) → m ≡ c → IsThere c.edges n → IsThere m.edges n
edge_in m c n is there = subst (λ (x : Complex). IsThere x.edges n) (sym is) there

pub face_in : (m c : Complex) (n : ℕ) → m ≡ c → IsThere c.faces n → IsThere m.faces n
face_in m c n is there = subst (λ (x : Complex). IsThere x.faces n) (sym is) there

-- one call more
pub stepped : {N : Type 0} (step : Complex → N → Complex) (x : N) (m n c d : Complex) → n ≡ step m x → m ≡ c
    → step c x ≡ d → n ≡ d
stepped step x m n c d call so_far next = call ∙ ap (λ (y : Complex). step y x) so_far ∙ next

-- the slots and the complex of an operator that is done
pub done : {S : Type 0} (s t : S) (c d : Complex) → t ≡ s → d ≡ c → ◌≡◌ {A = S × Complex} (s, c) (t, d)
done {S = S} s t c d slots now =
    let pair : S → Complex → S × Complex = λ x y. (x, y) in
    sym (ap (λ (x : S). pair x d) slots ∙ ap (λ (y : Complex). pair s y) now)

-- what follows where a call is done
pub on_ok : {T E : Type 0} (r : Result T E) (P Q : Type 0) → (P → Q) → OnOk r P → OnOk r Q
on_ok (Ok x) P Q f h = f h
on_ok (Err e) P Q f h = tt
