-- One command more.
use Rattle.std.proofs.Common.{◌≡◌, ℕ, zero, suc, ◌+◌, ◌<◌, ◌++◌, List, [], ◌∷◌, length, get_or, take, drop, sym, ap}
use Rattle.std.proofs.Common.{◌∙◌, arith, append_assoc}
use Rattle.std.proofs.lemmas.List.{drop_more}
use Rattle.op_slots.specs.declared.command.Command.{Command}
use Rattle.mesh_session.specs.State.{State}
use Rattle.mesh_session.specs.Steps.{step, steps}
use Rattle.mesh_session.specs.declared.reply.Reply.{Reply}

-- the replies so far and those to the commands that are left, when one is given
pub steps-more : (s next : State) (replies : List Reply) (reply : Reply) (cs : List Command) (i : ℕ) (c : Command)
    (all : List Reply × State) → i < length cs → get_or cs i c ≡ c → (reply, next) ≡ step s c
    → (replies ++ (steps s (drop i cs)).0, (steps s (drop i cs)).1) ≡ all
    → ((replies ++ reply ∷ []) ++ (steps next (drop (i + 1) cs)).0, (steps next (drop (i + 1) cs)).1) ≡ all
steps-more s next replies reply cs i c all h at is told =
    let left : drop i cs ≡ c ∷ drop (i + 1) cs = drop_more cs i c h ∙ ap (λ (x : Command). x ∷ drop (i + 1) cs) at in
    let told' = rw left at told in
    let next_is : next ≡ (step s c).1 = ap (λ (p : Reply × State). p.1) is in
    let reply_is : reply ≡ (step s c).0 = ap (λ (p : Reply × State). p.0) is in
    rw (append_assoc, next_is, reply_is) told'

steps-take_more : (s : State) (cs : List Command) (i : ℕ) (c : Command) → i < length cs → get_or cs i c ≡ c
    → (steps s (take (i + 1) cs)).1 ≡ (step (steps s (take i cs)).1 c).1
steps-take_more s [] i c h at = absurd (omega arith)
steps-take_more s (d ∷ cs) zero c h at = ap (λ (x : Command). (step s x).1) at
steps-take_more s (d ∷ cs) (suc i) c h at =
    let one : suc i + 1 ≡ suc (i + 1) = omega arith in
    ap (λ (n : ℕ). (steps s (take n (d ∷ cs))).1) one ∙ steps-take_more (step s d).1 cs i c (omega arith) at

-- the state after one command more
pub way-more : (s now next : State) (reply : Reply) (cs : List Command) (i : ℕ) (c : Command) → i < length cs
    → get_or cs i c ≡ c → (reply, next) ≡ step now c → now ≡ (steps s (take i cs)).1
    → next ≡ (steps s (take (i + 1) cs)).1
way-more s now next reply cs i c h at is way =
    ap (λ (p : Reply × State). p.1) is ∙ ap (λ (x : State). (step x c).1) way ∙ sym (steps-take_more s cs i c h at)
