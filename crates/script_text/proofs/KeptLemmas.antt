-- A test that each command and each declaration keeps is passed by every script.
use Rattle.std.proofs.Common.{◌≡◌, ℕ, ◌+◌, Bool, true, false, cond, not, List, [], ◌∷◌, ◌++◌, refl}
use Rattle.std.proofs.Common.{Option, Some, None, Result, Ok, Err, leb, length, ◌==◌, codes}
use Rattle.std.specs.List.{list_all}
use Rattle.text_words.specs.Text.{is_text, lines, words}
use Rattle.text_words.specs.Outcome.{◌>>=◌, ok_or}
use Rattle.mesh_model.specs.declared.layer_decl.LayerDecl.{LayerDecl}
use Rattle.script_text.specs.declared.script.Script.{Script}
use Rattle.script_text.specs.declared.table.Row.TheVariants.{Layer}
use Rattle.script_text.specs.declared.fault.ScriptWhy.{ScriptWhy}
use Rattle.script_text.specs.declared.fault.ScriptWhy.TheVariants.{UnknownWord, MissingArgument, BadExpression, BadLayer}
use Rattle.script_text.specs.declared.fault.ScriptRefusal.{ScriptRefusal}
use Rattle.script_text.specs.Arguments.{as_int, as_rule}
use Rattle.script_text.specs.Commands.{command}
use Rattle.script_text.specs.Layers.{width_of, is_refused, declared, layer_words, layer}
use Rattle.script_text.specs.Laws.{passes}
use Rattle.script_text.specs.Lines.{plain, statement, uncommented, is_text_byte, line}
use Rattle.script_text.specs.Rowed.{arguments_of}
use Rattle.script_text.specs.Script.{empty, at_line, script_of_lines, script_of}
use Rattle.script_text.specs.Values.{kind_of, layer_name}

-- ---- OUTCOMES

-- a step behind one whose value passes a test
pub passes_on : {A B : Type 0} (q : A → Bool) (p : B → Bool) (r : Result A ScriptWhy) (f : A → Result B ScriptWhy)
    → passes q r ≡ true → ((a : A) → q a ≡ true → passes p (f a) ≡ true) → passes p (r >>= f) ≡ true
passes_on q p (Ok a) f had then_ = then_ a had
passes_on q p (Err w) f had then_ = refl

-- a step behind any other
pub passes_any : {A B : Type 0} (p : B → Bool) (r : Result A ScriptWhy) (f : A → Result B ScriptWhy)
    → ((a : A) → passes p (f a) ≡ true) → passes p (r >>= f) ≡ true
passes_any p (Ok a) f then_ = then_ a
passes_any p (Err w) f then_ = refl

-- a choice of two
pub either : {A E : Type 0} (p : A → Bool) (b : Bool) (x y : Result A E) → passes p x ≡ true → passes p y ≡ true
    → passes p (cond b x y) ≡ true
either p true x y one other = one
either p false x y one other = other

-- ---- DECLARATIONS

declared_kept : (p : Script → Bool) (d : LayerDecl) (s : Script) (b : Bool) → is_refused d s.layers ≡ b
    → (is_refused d s.layers ≡ false → p (record s { layers = s.layers ++ d ∷ [] }) ≡ true)
    → passes p (declared d s) ≡ true
declared_kept p d s true is more = rw is refl
declared_kept p d s false is more = rw is (more is)

words_kept : (p : Script → Bool) (ws : List (List ℕ)) (s : Script)
    → ((d : LayerDecl) → is_refused d s.layers ≡ false → p (record s { layers = s.layers ++ d ∷ [] }) ≡ true)
    → passes p (layer_words ws s) ≡ true
words_kept p [] s more = refl
words_kept p (k ∷ []) s more = passes_any p (ok_or (kind_of k) UnknownWord) _ (λ kind. refl)
words_kept p (k ∷ n ∷ ws) s more =
    passes_any p (ok_or (kind_of k) UnknownWord) _ (λ kind.
    passes_any p (ok_or (layer_name n) BadExpression) _ (λ name.
    passes_any p (arguments_of Layer ws) _ (λ a.
    passes_any p (ok_or (as_int a.first) MissingArgument) _ (λ width.
    passes_any p (ok_or (as_rule a.second) MissingArgument) _ (λ rule.
    passes_any p (ok_or (width_of width) BadLayer) _ (λ w.
    let d : LayerDecl = record { kind = kind; name = name; width = w; rule = rule } in
    declared_kept p d s (is_refused d s.layers) refl (more d)))))))

-- a declaration keeps a test that the script passes with one more layer, which isn't refused
pub layer_kept : (p : Script → Bool) (ws : List (List ℕ)) (s : Script)
    → ((d : LayerDecl) → is_refused d s.layers ≡ false → p (record s { layers = s.layers ++ d ∷ [] }) ≡ true)
    → passes p (layer ws s) ≡ true
layer_kept p ws s more = either p (not (length s.commands == 0)) _ (layer_words ws s) refl (words_kept p ws s more)

-- ---- SCRIPTS

-- each command and each declaration keeps a test
pub record IsKept (p : Script → Bool) : Type 0 where
  pub commands : (number : ℕ) (name : Option (List ℕ)) (ws : List (List ℕ)) (s : Script) → p s ≡ true
      → passes p (command number name ws s) ≡ true
  pub layers : (ws : List (List ℕ)) (s : Script) → p s ≡ true → passes p (layer ws s) ≡ true

plain_kept : (p : Script → Bool) → IsKept p → (number : ℕ) (w : List ℕ) (ws : List (List ℕ)) (s : Script)
    → p s ≡ true → passes p (plain number w ws s) ≡ true
plain_kept p kept number w ws s were =
    either p (is_text (codes "layer") w) _ _ (kept.layers ws s were) (kept.commands number None (w ∷ ws) s were)

statement_kept : (p : Script → Bool) → IsKept p → (number : ℕ) (ws : List (List ℕ)) (s : Script) → p s ≡ true
    → passes p (statement number ws s) ≡ true
statement_kept p kept number [] s were = were
statement_kept p kept number (w ∷ []) s were = plain_kept p kept number w [] s were
statement_kept p kept number (w ∷ x ∷ ws) s were =
    either p (is_text (codes "=") x) _ _ (kept.commands number (Some w) ws s were)
    (plain_kept p kept number w (x ∷ ws) s were)

line_kept : (p : Script → Bool) → IsKept p → (number : ℕ) (text : List ℕ) (s : Script) → p s ≡ true
    → passes p (line number text s) ≡ true
line_kept p kept number text s were =
    either p (not (list_all is_text_byte text)) _ _ refl
    (statement_kept p kept number (words (uncommented text)) s were)

at_line_kept : (p : Script → Bool) (number : ℕ) (r : Result Script ScriptWhy) (f : Script → Result Script ScriptRefusal)
    → passes p r ≡ true → ((s : Script) → p s ≡ true → passes p (f s) ≡ true) → passes p (at_line number r f) ≡ true
at_line_kept p number (Err why) f had then_ = refl
at_line_kept p number (Ok s) f had then_ = then_ s had

pub lines_kept : (p : Script → Bool) → IsKept p → (k : ℕ) (s : Script) (ls : List (List ℕ)) → p s ≡ true
    → passes p (script_of_lines k s ls) ≡ true
lines_kept p kept k s [] were = were
lines_kept p kept k s (l ∷ ls) were =
    at_line_kept p (k + 1) (line (k + 1) l s) _ (line_kept p kept (k + 1) l s were)
    (λ t passed. lines_kept p kept (k + 1) t ls passed)

pub script_kept : (p : Script → Bool) → IsKept p → p empty ≡ true → (text : List ℕ)
    → passes p (script_of text) ≡ true
script_kept p kept first text =
    either p (leb (length text) 1048576) _ _ (lines_kept p kept 0 empty (lines text) first) refl
