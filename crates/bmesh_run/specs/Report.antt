-- The report: a line for each command, one for each declared layer, and one for the end.
use Rattle.std.specs.Prelude.{ℕ, ℤ, ◌&&◌, Bool, true, false, is_some, codes, List, ◌∷◌, ◌++◌, length, drop}
use Rattle.std.specs.Fmt.{decimal, signed_decimal}
use Rattle.std.specs.List.{count_by, flat_map, zip, enumerate_from}
use Rattle.mesh_model.specs.Table.{live}
use Rattle.mesh_model.specs.Complex.{Complex, corner_sum}
use Rattle.mesh_model.specs.Incidence.{is_loose}
use Rattle.mesh_model.specs.Words.{elem_text, kind_text, why_text}
use Rattle.mesh_model.specs.declared.layer_decl.LayerDecl.{LayerDecl}
use Rattle.mesh_model.specs.declared.refusal.Refusal.{Refusal}
use Rattle.mesh_model.specs.declared.refusal.Place.{Place}
use Rattle.mesh_model.specs.declared.refusal.Place.TheVariants.{Nowhere, Elem, Kind}
use Rattle.layer_sums.specs.Sums.{layer_sums}
use Rattle.op_slots.specs.declared.slots.Slots.{Slots}
use Rattle.op_slots.specs.declared.command.Command.{Command}
use Rattle.mesh_session.specs.State.{State}
use Rattle.mesh_session.specs.declared.reply.Reply.{Reply}
use Rattle.mesh_session.specs.declared.reply.Reply.TheVariants.{Done, Refused}

-- the line of a done command that gives back so many elements
abbrev pub count_line : ℕ → ℕ → ℕ → ℕ → List ℕ
count_line line verts edges faces =
    decimal line ++ (codes " done verts="
    ++ (decimal verts ++ (codes " edges=" ++ (decimal edges ++ (codes " faces=" ++ (decimal faces ++ codes "\n"))))))

-- the numbers of elements that a done command gives back
abbrev pub done_line : ℕ → Slots → List ℕ
done_line line slots = count_line line (length slots.geom.verts) (length slots.geom.edges) (length slots.geom.faces)

-- why a command is refused, and the element or the kind if there is one
abbrev pub refused_line : ℕ → Refusal → Place → List ℕ
refused_line line r Nowhere = decimal line ++ (codes " refused " ++ (why_text r.why ++ codes "\n"))
refused_line line r (Elem x) =
    decimal line ++ (codes " refused " ++ (why_text r.why ++ (codes " " ++ (elem_text x ++ codes "\n"))))
refused_line line r (Kind k) =
    decimal line ++ (codes " refused " ++ (why_text r.why ++ (codes " " ++ (kind_text k ++ codes "\n"))))

-- the line of a command by its reply
abbrev pub reply_line : ℕ → Reply → List ℕ
reply_line line (Done slots) = done_line line slots
reply_line line (Refused r) = refused_line line r r.place

-- the lines of commands by their replies
abbrev pub reply_lines : List Command → List Reply → List ℕ
reply_lines commands replies = flat_map (λ p. reply_line p.0.line p.1) (zip commands replies)

-- a command was refused
abbrev pub is_refused : Reply → Bool
is_refused (Done slots) = false
is_refused (Refused r) = true

-- numbers with a comma before each but the first
abbrev pub listed : List ℤ → List ℕ
listed xs = drop 1 (flat_map (λ x. 44 ∷ signed_decimal x) xs)

-- the line of a declared layer: its kind, its name, and the sums of its numbers over all elements
abbrev pub layer_line : Complex → LayerDecl → List ℕ
layer_line c d =
    codes "layer "
    ++ (kind_text d.kind
    ++ (codes " " ++ (d.name ++ (codes " sum=" ++ (listed (layer_sums c d.kind d.name) ++ codes "\n")))))

-- the lines of declared layers in order
abbrev pub layer_lines : Complex → List LayerDecl → List ℕ
layer_lines c layers = flat_map (layer_line c) layers

-- how many edges have no corner
abbrev pub loose_count : Complex → ℕ
loose_count c = count_by (λ e. is_some e.1 && is_loose c (record { 0 = e.0 })) (enumerate_from 0 c.edges)

-- the numbers of live elements and of live corners
abbrev pub element_counts : Complex → List ℕ
element_counts c = codes "end verts="
    ++ (decimal (live c.verts)
    ++ (codes " edges="
    ++ (decimal (live c.edges)
    ++ (codes " faces=" ++ (decimal (live c.faces) ++ (codes " corners=" ++ decimal (corner_sum c.faces)))))))

-- the number of loose edges, that of refused commands, and the lengths of both lists
abbrev pub command_counts : ℕ → State → List ℕ
command_counts refused s =
    codes " loose=" ++ (decimal (loose_count s.now)
    ++ (codes " refused="
    ++ (decimal refused
    ++ (codes " undo=" ++ (decimal (length s.undo) ++ (codes " redo=" ++ (decimal (length s.redo) ++ codes "\n")))))))

-- the last line: all these numbers
abbrev pub end_line : ℕ → State → List ℕ
end_line refused s = element_counts s.now ++ command_counts refused s

-- the report of commands by their replies, of declared layers and of the last state
abbrev pub report : List Command → List Reply → List LayerDecl → State → List ℕ
report commands replies layers s =
    reply_lines commands replies ++ (layer_lines s.now layers ++ end_line (count_by is_refused replies) s)
