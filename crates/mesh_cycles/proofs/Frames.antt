-- The three kinds of cycles of a store, and what each is read from.
use Rattle.std.proofs.Common.{◌≡◌, ◌≢◌, ℕ, ◌==◌, List, Option, Some, None, refl, sym, ap, ◌∙◌}
use Rattle.std.specs.Option.{option_map}
use Rattle.std.proofs.lemmas.Bool.{and_parts, eqb-true, eq-eqb}
use Rattle.std.proofs.lemmas.Option.{same_Some}
use Rattle.link_ring.proofs.Paths.{IsIdentityTest}
use Rattle.mesh_store.specs.Limits.{equal_darts}
use Rattle.mesh_store.specs.Slots.{at}
use Rattle.mesh_store.specs.Stored.{Stored, dart_links, radial_links, round_links}
use Rattle.mesh_store.specs.declared.cells.Dart.{Dart}
use Rattle.mesh_store.specs.declared.cells.Radial.{Radial}
use Rattle.mesh_store.specs.declared.cells.Round.{Round}
use Rattle.mesh_store.specs.declared.cells.EdgeCell.{EdgeCell}
use Rattle.mesh_cycles.specs.Owners.{end_on, dart_end, edge_of, face_of, first_dart, first_radial, first_round}
use Rattle.mesh_cycles.specs.Lists.{same_dart, same_radial, same_round}
use Rattle.mesh_cycles.specs.Cycles.{AreCycles, EndsDiffer, dart_limit, loop_limit}
use Rattle.mesh_cycles.proofs.CycleKinds.{Kind, Holds}

-- ---- the three tests

pub dart_test : IsIdentityTest same_dart
dart_test = record {
  one = λ a b h. let p = and_parts (a.edge.0 == b.edge.0) (a.side == b.side) h in equal_darts a b
      (eqb-true a.edge.0 b.edge.0 p.0) (eqb-true a.side b.side p.1);
  same = λ a. rw (eq-eqb a.edge.0 a.edge.0 refl) (eq-eqb a.side a.side refl);
}

pub radial_test : IsIdentityTest same_radial
radial_test = record {
  one = λ a b h. (let e = eqb-true a.0.0 b.0.0 h in λ i. record { 0 = record { 0 = e i } });
  same = λ a. eq-eqb a.0.0 a.0.0 refl;
}

pub round_test : IsIdentityTest same_round
round_test = record {
  one = λ a b h. (let e = eqb-true a.0.0 b.0.0 h in λ i. record { 0 = record { 0 = e i } });
  same = λ a. eq-eqb a.0.0 a.0.0 refl;
}

-- ---- the three kinds

abbrev pub disk_kind : Stored → Kind Dart
disk_kind st = record { links = dart_links st; limit = dart_limit st; first = first_dart st; owner = dart_end st }

abbrev pub radial_kind : Stored → Kind Radial
radial_kind st = record {
  links = radial_links st;
  limit = loop_limit st;
  first = first_radial st;
  owner = λ l. edge_of st l.0;
}

abbrev pub round_kind : Stored → Kind Round
round_kind st = record {
  links = round_links st;
  limit = loop_limit st;
  first = first_round st;
  owner = λ l. face_of st l.0;
}

pub disks_hold : (st : Stored) → AreCycles st → Holds same_dart (disk_kind st)
disks_hold st h = record { reads = h.disks; owned = h.disk_ends }

pub radials_hold : (st : Stored) → AreCycles st → Holds same_radial (radial_kind st)
radials_hold st h = record { reads = h.radials; owned = h.radial_edges }

pub rounds_hold : (st : Stored) → AreCycles st → Holds same_round (round_kind st)
rounds_hold st h = record { reads = h.rounds; owned = h.round_faces }

-- all cycles hold
pub are_cycles : (st : Stored) → Holds same_dart (disk_kind st) → Holds same_radial (radial_kind st)
    → Holds same_round (round_kind st) → EndsDiffer st.edges.cells → AreCycles st
are_cycles st d l r e = record {
  disks = d.reads;
  radials = l.reads;
  rounds = r.reads;
  disk_ends = d.owned;
  radial_edges = l.owned;
  round_faces = r.owned;
  differ = e;
}

-- the ends differ too where each edge ends at the same vertices
pub differ_along : (old new : List (Option EdgeCell))
    → ((s e : ℕ) → option_map (end_on s) (at new e) ≡ option_map (end_on s) (at old e)) → EndsDiffer old
    → EndsDiffer new
differ_along old new same differ e c is =
    differs_in (at old e) (λ b p. differ e b p) (sym (same 0 e) ∙ ap (option_map (end_on 0)) is)
    (sym (same 1 e) ∙ ap (option_map (end_on 1)) is)
  where
    differs_in : (o : Option EdgeCell) → ((b : EdgeCell) → o ≡ Some b → end_on 0 b ≢ end_on 1 b)
        → option_map (end_on 0) o ≡ Some (end_on 0 c) → option_map (end_on 1) o ≡ Some (end_on 1 c)
        → end_on 0 c ≢ end_on 1 c
    differs_in None n p q e = absurd (let r : None ≡ Some (end_on 0 c) = p in cc)
    differs_in (Some b) n p q e = n b refl (same_Some _ _ p ∙ e ∙ sym (same_Some _ _ q))
