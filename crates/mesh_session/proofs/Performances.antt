-- What an operator answers for a session.
use Rattle.std.proofs.Common.{◌≡◌, ℕ, ℤ, List, Option, None, Result, Ok, Err, refl, ap, subst}
use Rattle.mesh_model.specs.Complex.{Complex}
use Rattle.mesh_model.specs.Elements.{Elements}
use Rattle.mesh_model.specs.Valid.{IsLinked, IsSound}
use Rattle.mesh_model.specs.declared.refusal.Refusal.{Refusal}
use Rattle.mesh_core.specs.Seen.{Seen, now}
use Rattle.mesh_passes.specs.Answer.{IsReady, AnswerIs, Meets}
use Rattle.op_slots.specs.Values.{FailsAs, unless_refused}
use Rattle.op_slots.specs.declared.fault.Fault.{Fault}
use Rattle.op_slots.specs.declared.fault.Fault.TheVariants.{Refused, NoMemory}
use Rattle.op_slots.specs.declared.slots.Slots.{Slots}
use Rattle.mesh_model.specs.declared.records.Point.{Point}
use Rattle.mesh_model.specs.declared.names.VertName.{VertName}
use Rattle.mesh_model.specs.declared.names.Kind.{Kind}
use Rattle.op_basic.specs.Motions.{scale_row}
use Rattle.op_values.specs.Setting.{set_row}
use Rattle.mesh_session.specs.Operators.{over}

-- the row of an operator, where its argument stands for elements
pub looked_up : (f : Elements → Result (Slots × Complex) Refusal) (named : Result Elements Refusal) (x : Elements)
    (old new : Seen) (result : Result Slots Fault) → named ≡ Ok x → Meets (f x) old new result
    → Meets (over named f) old new result
looked_up f named x old new result is met = rw is met

-- a refusal that nothing has changed
pub refused : (row : Result (Slots × Complex) Refusal) (r : Refusal) (old : Seen) → row ≡ Err r
    → Meets row old old (Err (Refused r))
refused row r old is = record { answer = (is, refl); base = refl }

-- want of memory before anything has changed
pub out_of_memory : (row : Result (Slots × Complex) Refusal) (old : Seen) → IsReady old
    → Meets row old old (Err NoMemory)
out_of_memory row old ready = record { answer = (ready.sound.valid.linked, λ r is. refl); base = refl }

-- an argument that stands for nothing
pub unresolved : (f : Elements → Result (Slots × Complex) Refusal) (named : Result Elements Refusal) (fault : Fault)
    (old : Seen) → IsReady old → FailsAs fault named → Meets (over named f) old old (Err fault)
unresolved f named NoMemory old ready fails = out_of_memory (over named f) old ready
unresolved f named (Refused r) old ready is = refused (over named f) r old (ap (λ n. over n f) is)

-- the row of an operator whose list isn't refused, over an equal list
pub listed : (f : List VertName → Result (Slots × Complex) Refusal) (o : Option Refusal) (vs copy : List VertName)
    (old new : Seen) (result : Result Slots Fault) → o ≡ None → copy ≡ vs → Meets (f copy) old new result
    → Meets (unless_refused o (f vs)) old new result
listed f o vs copy old new result none same met = rw none (subst (λ (x : List VertName). Meets (f x) old new result) same met)

-- ---- NUMBERS

-- scaling by numbers that are read back
pub scaled_by : (vs : List VertName) (about : Point) (num n den d : ℤ) (old new : Seen) (result : Result Slots Fault)
    → n ≡ num → d ≡ den → Meets (scale_row vs about n d (now old)) old new result
    → Meets (scale_row vs about num den (now old)) old new result
scaled_by vs about num n den d old new result a b met =
    subst (λ (k : ℤ). Meets (scale_row vs about k den (now old)) old new result) a
    (subst (λ (k : ℤ). Meets (scale_row vs about n k (now old)) old new result) b met)

pub scaled_over : (named : Result Elements Refusal) (about : Point) (num n den d : ℤ) (old new : Seen)
    (result : Result Slots Fault) → n ≡ num → d ≡ den
    → Meets (over named (λ x. scale_row x.verts about n d (now old))) old new result
    → Meets (over named (λ x. scale_row x.verts about num den (now old))) old new result
scaled_over named about num n den d old new result a b met =
    subst (λ (k : ℤ). Meets (over named (λ x. scale_row x.verts about k den (now old))) old new result) a
    (subst (λ (k : ℤ). Meets (over named (λ x. scale_row x.verts about n k (now old))) old new result) b met)

-- setting by a name and numbers that are equal
pub set_equal : (of : Kind) (x : Elements) (n name : List ℕ) (ns values : List ℤ) (old new : Seen)
    (result : Result Slots Fault) → n ≡ name → ns ≡ values → Meets (set_row of x n ns (now old)) old new result
    → Meets (set_row of x name values (now old)) old new result
set_equal of x n name ns values old new result a b met =
    subst (λ (k : List ℕ). Meets (set_row of x k values (now old)) old new result) a
    (subst (λ (k : List ℤ). Meets (set_row of x n k (now old)) old new result) b met)
