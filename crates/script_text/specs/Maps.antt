-- Mappings of vertices.
use Rattle.std.specs.Prelude.{ℕ, ◌==◌, if◌then◌else◌, codes, List, [], ◌∷◌, Option, Some, None, Result, Ok, Err}
use Rattle.std.specs.Prelude.{option_and_then}
use Rattle.text_words.specs.Text.{is_text, parts_of, cut}
use Rattle.op_slots.specs.Mapping.{mapping_of}
use Rattle.op_slots.specs.declared.mapping.Pair.{Pair}
use Rattle.op_slots.specs.declared.term.MapArg.{MapArg}
use Rattle.op_slots.specs.declared.term.MapArg.TheVariants.{Pairs, Slot}
use Rattle.script_text.specs.declared.fault.ScriptWhy.{ScriptWhy}
use Rattle.script_text.specs.declared.fault.ScriptWhy.TheVariants.{TwiceGiven, BadExpression}
use Rattle.script_text.specs.Names.{is_name}
use Rattle.text_words.specs.Outcome.{◌>>=◌, ok_or}
use Rattle.script_text.specs.Terms.{at_most, vert}

abbrev pair_cut : Option (List ℕ × List ℕ) → Option Pair
pair_cut None = None
pair_cut (Some (first, second)) =
    option_and_then (λ s. option_and_then (λ t. Some (record { source = s; target = t })) (vert second)) (vert first)

-- `vN:vN`
abbrev pub pair : List ℕ → Option Pair
pair word = pair_cut (cut 58 word)

-- 1 to 4,096 pairs between commas, then no source twice
abbrev pub pairs : List (List ℕ) → Result MapArg ScriptWhy
pairs ws = do
  ps ← ok_or (at_most 4096 pair ws) BadExpression
  mapping ← ok_or (mapping_of ps) TwiceGiven
  Ok (Pairs mapping)

abbrev slot_cut : Option (List ℕ × List ℕ) → Option MapArg
slot_cut None = None
slot_cut (Some (name, ending)) =
    if is_text (codes "map") ending then (if is_name name then Some (Slot name) else None) else None

-- `NAME.map` behind the dollar sign
abbrev pub slot : List ℕ → Option MapArg
slot word = slot_cut (cut 46 word)

abbrev pub map_arg : List ℕ → Result MapArg ScriptWhy
map_arg [] = Err BadExpression
map_arg (b ∷ rest) = if b == 36 then ok_or (slot rest) BadExpression else pairs (parts_of 44 (b ∷ rest))
