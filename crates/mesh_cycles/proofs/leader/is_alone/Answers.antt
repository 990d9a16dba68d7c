use Rattle.std.proofs.Common.{◌≡◌, [], ◌∷◌, sym, subst, inl, inr}
use Rattle.raw_pool.specs.declared.pool.Slot.{Slot}
use Rattle.link_ring.proofs.Members.{member_one, member_cases, member_of}
use Rattle.mesh_cycles.specs.Found.{face_at}
use Rattle.mesh_cycles.proofs.Leaders.{began, next_walked, yielded_all}
use Rattle.mesh_cycles.proofs.leader.is_alone.Goals as goal

pub is_other-requires : goal.is_other-requires
is_other-requires g c =
    let live = c.requires.live in
    let walk = began g.I.Iterator.next_gives live.0 c.into_iter-k-iterator.result c.args.loops
    c.into_iter-k-iterator.ensures.into_iter_gives live.1 in
    live.2 c.in-Some.k (next_walked walk c.loop-k.yielded c.loop-k.k-iterator c.next.new.self c.in-Some.k
    c.loop-k.yielded_by c.in-Some.ensures.steps)

pub loop-k-preserved : goal.loop-k-preserved
loop-k-preserved g c = record {
  ready = c.in-Some.ensures.goes.keeps;
  ends = (c.in-Some.ensures.goes.on c.loop-k.invariant.ends).1;
  alone = λ j m is. elim (member_cases c.loop-k.yielded (c.in-Some.k ∷ []) j m) [
    | inl a ↦ c.loop-k.invariant.alone j a is
    | inr b ↦
        let one : c.in-Some.k ≡ j = member_one b in
        subst (λ (s : Slot). s ≡ c.args.l) one (c.is_other.ensures c.if-is_other.false
        (subst (λ (s : Slot). face_at c.args.st.now s ≡ c.args.f) (sym one) is))
  ];
}

pub returns : goal.returns
returns g c = λ ls a t j m is.
    let walk = began g.I.Iterator.next_gives ls c.into_iter-k-iterator.result c.args.loops
    c.into_iter-k-iterator.ensures.into_iter_gives a in
    c.loop-k.invariant.alone j (member_of j m (sym (yielded_all walk c.loop-k.yielded c.loop-k.k-iterator
    c.next.new.self c.loop-k.yielded_by c.in-None.ensures.steps))) is
