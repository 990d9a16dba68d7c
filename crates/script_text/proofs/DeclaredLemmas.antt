-- The layers of a script can be declared behind the fixed ones.
use Rattle.std.proofs.Common.{◌≡◌, ◌∙◌, ℕ, Bool, true, false, not, List, [], ◌∷◌, ◌++◌, Option, Some, None, is_some}
use Rattle.std.proofs.Common.{Result, Ok, Err, IfOk, refl, ap, fold, leb, length}
use Rattle.std.specs.Option.{option_or}
use Rattle.text_words.specs.Verdict.{Answers}
use Rattle.cust_data.specs.declared.fault.LayerFault.{LayerFault}
use Rattle.mesh_model.specs.Complex.{KindLayers, fixed_layers}
use Rattle.mesh_model.specs.Declaring.{with_layer_declared, declaration_fault, first_declaration_fault}
use Rattle.mesh_model.specs.declared.layer_decl.LayerDecl.{LayerDecl}
use Rattle.script_text.specs.declared.script.Script.{Script}
use Rattle.script_text.specs.declared.fault.ScriptFault.{ScriptFault}
use Rattle.script_text.specs.Commands.{bound_name, what_of, command}
use Rattle.script_text.specs.Faults.{refusal_of}
use Rattle.script_text.specs.Layers.{is_refused, layers_with, AreDeclarable}
use Rattle.script_text.specs.Laws.{passes}
use Rattle.script_text.specs.Script.{empty, script_of_lines}
use Rattle.script_text.proofs.KeptLemmas.{passes_any, either, layer_kept, IsKept, lines_kept}

-- the first of three, however they are grouped
or_assoc : {X : Type 0} (a b c : Option X) → option_or a (option_or b c) ≡ option_or (option_or a b) c
or_assoc None b c = refl
or_assoc (Some x) b c = refl

-- the first fault with one declaration more
fault_push : (base : KindLayers) (ds : List LayerDecl) (d : LayerDecl)
    → first_declaration_fault base (ds ++ d ∷ [])
    ≡ option_or (first_declaration_fault base ds)
    (option_or (declaration_fault (fold with_layer_declared base ds) d) None)
fault_push base [] d = refl
fault_push base (e ∷ ds) d =
    ap (option_or (declaration_fault base e)) (fault_push (with_layer_declared base e) ds d)
    ∙ or_assoc (declaration_fault base e) (first_declaration_fault (with_layer_declared base e) ds)
    (option_or (declaration_fault (fold with_layer_declared base (e ∷ ds)) d) None)

-- the layers of a script have no fault
abbrev is_declarable : Script → Bool
is_declarable s = not (is_some (first_declaration_fault fixed_layers s.layers))

both_none : (a b : Option LayerFault) → not (is_some a) ≡ true → is_some b ≡ false
    → not (is_some (option_or a (option_or b None))) ≡ true
both_none None None one other = refl
both_none None (Some f) one other = ap not other
both_none (Some f) b one other = one

layer_more : (s : Script) (d : LayerDecl) → is_declarable s ≡ true → is_refused d s.layers ≡ false
    → is_declarable (record s { layers = s.layers ++ d ∷ [] }) ≡ true
layer_more s d were free =
    ap (λ (o : Option LayerFault). not (is_some o)) (fault_push fixed_layers s.layers d)
    ∙ both_none (first_declaration_fault fixed_layers s.layers) (declaration_fault (layers_with s.layers) d) were free

command_declarable : (number : ℕ) (name : Option (List ℕ)) (ws : List (List ℕ)) (s : Script)
    → is_declarable s ≡ true → passes is_declarable (command number name ws s) ≡ true
command_declarable number name ws s were =
    either is_declarable (leb 4096 (length s.commands)) _ _ refl
    (passes_any is_declarable (bound_name name s.commands) _
    (λ bind. passes_any is_declarable (what_of (is_some name) ws) _ (λ what. were)))

kept : IsKept is_declarable
kept = record {
  commands = command_declarable;
  layers = λ ws s were. layer_kept is_declarable ws s (λ d free. layer_more s d were free);
}

no_fault : (o : Option LayerFault) → not (is_some o) ≡ true → o ≡ None
no_fault None h = refl
no_fault (Some f) h = absurd (cc)

-- what a call answers that reads lines
pub lines_declarable : (r : Result Script ScriptFault) (ls : List (List ℕ))
    → Answers refusal_of r (script_of_lines 0 empty ls) → IfOk r (λ (s : Script). AreDeclarable s.layers)
lines_declarable (Err e) ls told = tt
lines_declarable (Ok s) ls told =
    no_fault (first_declaration_fault fixed_layers s.layers)
    (rw told at (lines_kept is_declarable kept 0 empty ls refl))
