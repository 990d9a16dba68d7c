use Rattle.std.proofs.Common.{◌≡◌, ℕ, List, sym, ap, ◌∙◌, inr, Option, Some, take}
use Rattle.std.specs.Option.{option_map}
use Rattle.byte_sink.specs.Wrote.{with_after}
use Rattle.obj_writer.specs.Whole.{text}
use Rattle.worlds.specs.Files.{put}
use Rattle.worlds.specs.Told.{Told, with_start}
use Rattle.worlds.specs.declared.start.Purpose.TheVariants.{Writing}
use Rattle.bmesh_run.proofs.Writing.{file_written, made_begun, started_begun, gains_start, makes_all}
use Rattle.bmesh_run.proofs.write.whole_file.begin_file.Goals as goal

pub returns-in_err-write-clause-part : goal.returns-in_err-write-clause-part
returns-in_err-write-clause-part g c =
    let told = g.W.World.told in
    let law = g.met.W.World in
    let before = c.start_write.new.self in
    let after = c.write.new.sink in
    let part = c.in_err-write.ensures.part in
    let piece : List ℕ = take part.0 (text c.args.scale (g.S.Shape.complex c.args.shape.now)) in
    inr (
      part.0,
      made_begun (told c.args.world.now) (told before) (told after) c.args.name.now piece c.in_ok-start_write.ensures
          (law.others_is_rest after before c.in_err-write.ensures.others)
          (sym (law.sink_is_begun after).0 ∙ part.1
          ∙ ap (λ (o : Option (List ℕ)). with_after o piece) (law.sink_is_begun before).0),
    )

pub returns-in_err-write-clause-started : goal.returns-in_err-write-clause-started
returns-in_err-write-clause-started g c =
    let told = g.W.World.told in
    let before = c.start_write.new.self in
    let after = c.write.new.sink in
    gains_start c.from_residual-in_err-write.result (told c.args.world.now) (told after) c.args.name.now Writing
    (started_begun (told c.args.world.now) (told before) (told after) c.args.name.now c.in_ok-start_write.ensures
    (g.met.W.World.others_is_rest after before c.in_err-write.ensures.others))

pub returns-clause-ok : goal.returns-clause-ok
returns-clause-ok g c =
    let told = g.W.World.told in
    let law = g.met.W.World in
    let before = c.start_write.new.self in
    let after = c.write.new.sink in
    let old = told c.args.world.now in
    let name = c.args.name.now in
    let bytes = (text c.args.scale (g.S.Shape.complex c.args.shape.now)) in
    let count : (told after).out_faults ≡ old.out_faults =
    sym (law.sink_is_begun after).1 ∙ c.in_ok-write.ensures.cause ∙ (law.sink_is_begun before).1
    ∙ ap (λ (t : Told). t.out_faults) c.in_ok-start_write.ensures in
    file_written old (told before) (told after) name bytes c.in_ok-start_write.ensures
    (law.others_is_rest after before c.in_ok-write.ensures.others)
    (sym (law.sink_is_begun after).0 ∙ c.in_ok-write.ensures.ok
    ∙ ap (λ (o : Option (List ℕ)). with_after o bytes) (law.sink_is_begun before).0)
    ∙ ap (λ (n : ℕ). record (with_start old name Writing) {
      made = option_map (put name bytes) old.made;
      begun = Some name;
      out_faults = n;
    }) count

pub returns-clause-part : goal.returns-clause-part
returns-clause-part g c =
    let told = g.W.World.told in
    let law = g.met.W.World in
    let before = c.start_write.new.self in
    let after = c.write.new.sink in
    let old = told c.args.world.now in
    let name = c.args.name.now in
    let bytes = (text c.args.scale (g.S.Shape.complex c.args.shape.now)) in
    makes_all old (told after) name bytes
    (made_begun old (told before) (told after) name bytes c.in_ok-start_write.ensures
    (law.others_is_rest after before c.in_ok-write.ensures.others)
    (sym (law.sink_is_begun after).0 ∙ c.in_ok-write.ensures.ok
    ∙ ap (λ (o : Option (List ℕ)). with_after o bytes) (law.sink_is_begun before).0))
