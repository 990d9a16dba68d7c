-- What clap finds in words that it takes: the three names, and a number from 0 to 6.
use Rattle.std.proofs.Common.{zero, suc, ◌≡◌, ◌∙◌, ◌<◌, ◌≤◌, ap, subst, sym, refl, ℕ, Bool, true, false, List, [], ◌∷◌, length, map, is_some, Option, Some, None, inl, inr, arith, codes, pos}
use Rattle.std.specs.List.{All, Any, list_all, slice_index_or}
use Rattle.std.specs.Prelude.{find, option_map, unwrap_or}
use Rattle.std.specs.Str.{bytes_eq}
use Rattle.std.specs.Borrow.{Bor}
use Rattle.std.proofs.lemmas.List.{get_or-map, length-map}
use Rattle.std.proofs.lemmas.Slice.Eq.{bytes_eq-Decides}
use Rattle.clap.specs.Built.{IsAuto, IsParsedFrom, IsPlain}
use Rattle.clap.specs.Facts.{Entry, EntryPasses, HasIn, MayBeEmpty, WantsDefault, args_of, groups_of, least_values, parser_of, parser_of_value, unwrap_or_range}
use Rattle.clap.specs.Faults.{has_free_rules}
use Rattle.clap.specs.Lexer.{without_minus}
use Rattle.clap.specs.Matches.{first_value, found_of, matched_of, one_text}
use Rattle.clap.specs.Simple.{IsSimple, is_ready, is_ready_leaf}
use Rattle.clap.specs.Texts.{items_of}
use Rattle.clap.specs.Values.{Accepts, IsSignedIn, reading_of}
use Rattle.clap.specs.Words.{App, Rule, Text, app_of, rule_of}
use Rattle.clap.specs.declared.builder.action.ArgAction.{ArgAction}
use Rattle.clap.specs.declared.builder.action.ArgAction.TheVariants.{Count, Set}
use Rattle.clap.specs.declared.builder.arg.Arg.{Arg}
use Rattle.clap.specs.declared.builder.command.Command.{Command}
use Rattle.clap.specs.declared.builder.command.Command.TheViews.{out-Command}
use Rattle.clap.specs.declared.builder.range.ValueRange.{ValueRange}
use Rattle.clap.specs.declared.builder.value_parser.Reading.{Reading}
use Rattle.clap.specs.declared.builder.value_parser.Reading.TheVariants.{WithoutMinus}
use Rattle.clap.specs.declared.builder.value_parser.ValueParser.{ValueParser}
use Rattle.clap.specs.declared.builder.value_parser.ValueParser.TheVariants.{Signed}
use Rattle.clap.specs.declared.parser.matches.ArgMatches.{ArgMatches}
use Rattle.clap.specs.declared.parser.matches.Found.{Found}
use Rattle.clap.specs.declared.parser.matches.MatchedArg.{MatchedArg}
use Rattle.clap.proofs.CallerLemmas.{default_present, entry_by_id, required_has_value, same_rules_by_id}
use Rattle.clap.proofs.FaultLemmas.{free_args}
use Rattle.clap.proofs.SimpleLemmas.{all_simple, ready_simple, simple_groups}
use Rattle.command_line.specs.Found.{HasAll}
use Rattle.command_line.specs.Job.{command, name, scale}

-- the four arguments, as clap reads them
abbrev rules : List Rule
rules = command.top.rules

-- ---- the command and its arguments

rules_are : (c : Command) → app_of c ≡ command → map rule_of (args_of c) ≡ rules
rules_are c is = ap (λ (a : App). a.top.rules) is

four : (c : Command) → app_of c ≡ command → length (args_of c) ≡ 4
four c is = sym (length-map (args_of c) rule_of) ∙ ap (λ (l : List Rule). length l) (rules_are c is)

rule_at : (c : Command) → app_of c ≡ command → (k : ℕ) (d : Arg) (r : Rule) → k < length (args_of c)
    → rule_of (slice_index_or (args_of c) k d) ≡ slice_index_or rules k r
rule_at c is k d r lt =
    sym (get_or-map rule_of (args_of c) k d r lt) ∙ ap (λ (l : List Rule). slice_index_or l k r) (rules_are c is)

first_arg : (xs : List Arg) → 0 < length xs → Arg
first_arg [] lt = absurd (omega arith)
first_arg (x ∷ xs) lt = x

simple : (c : Command) → app_of c ≡ command → IsSimple c
simple c is = ready_simple c (ap (λ (a : App). is_ready a.top) is) (ap (λ (a : App). list_all is_ready_leaf a.subs) is)

plain : (c : Command) → app_of c ≡ command → IsPlain c
plain c is =
    let free = free_args c (simple c is) (ap (λ (a : App). has_free_rules a.top) is) in
    let alone = simple_groups c (ap (λ (a : App). all_simple a.top.rules) is) in (
      λ k d lt. ((free k d lt).exclusive, (free k d lt).conflicts, (free k d lt).overrides, alone k d lt),
      (simple c is).groups,
    )

negates : (c : Command) → app_of c ≡ command → (out-Command c).subcommand_negates_reqs ≡ false
negates c is = ap (λ (a : App). a.top.subcommand_negates_reqs) is

-- no two have one id
distinct : (j k : ℕ) → j < 4 → k < 4 → (r s : Rule)
    → bytes_eq (slice_index_or rules j r).id (slice_index_or rules k s).id ≡ true → j ≡ k
distinct zero zero lj lk r s same = refl
distinct zero (suc zero) lj lk r s same = cc
distinct zero (suc (suc zero)) lj lk r s same = cc
distinct zero (suc (suc (suc zero))) lj lk r s same = cc
distinct (suc zero) zero lj lk r s same = cc
distinct (suc zero) (suc zero) lj lk r s same = refl
distinct (suc zero) (suc (suc zero)) lj lk r s same = cc
distinct (suc zero) (suc (suc (suc zero))) lj lk r s same = cc
distinct (suc (suc zero)) zero lj lk r s same = cc
distinct (suc (suc zero)) (suc zero) lj lk r s same = cc
distinct (suc (suc zero)) (suc (suc zero)) lj lk r s same = refl
distinct (suc (suc zero)) (suc (suc (suc zero))) lj lk r s same = cc
distinct (suc (suc (suc zero))) zero lj lk r s same = cc
distinct (suc (suc (suc zero))) (suc zero) lj lk r s same = cc
distinct (suc (suc (suc zero))) (suc (suc zero)) lj lk r s same = cc
distinct (suc (suc (suc zero))) (suc (suc (suc zero))) lj lk r s same = refl
distinct (suc (suc (suc (suc j)))) k lj lk r s same = absurd (omega arith)
distinct j (suc (suc (suc (suc k)))) lj lk r s same = absurd (omega arith)

only : (c : Command) → app_of c ≡ command → (k : ℕ) (d : Arg) → k < length (args_of c) → (j : ℕ) (f : Arg)
    → j < length (args_of c)
    → bytes_eq (slice_index_or (args_of c) j f).id.now (slice_index_or (args_of c) k d).id.now ≡ true → j ≡ k
only c is k d lt j f low same =
    let len = four c is in
    let left = ap (λ (r : Rule). r.id) (rule_at c is j f (rule_of f) low) in
    let right = ap (λ (r : Rule). r.id) (rule_at c is k d (rule_of f) lt) in
    distinct j k (omega arith) (omega arith) (rule_of f) (rule_of f) (rw (left, right) at same)

differ : (a b : Text) → bytes_eq a b ≡ false → a ≡ b → ⊥
differ a b unlike same =
    let yes : bytes_eq a b ≡ true = (bytes_eq-Decides a b).1 same in
    cc

-- an id that isn't empty, and that clap gives to no flag of its own
record IsOwn (id : Text) : Type 0 where
  named : bytes_eq id [] ≡ false
  help : bytes_eq id (codes "help") ≡ false
  version : bytes_eq id (codes "version") ≡ false

model_own : IsOwn (codes "MODEL")
model_own = record { named = refl; help = refl; version = refl }

script_own : IsOwn (codes "SCRIPT")
script_own = record { named = refl; help = refl; version = refl }

out_own : IsOwn (codes "OUT")
out_own = record { named = refl; help = refl; version = refl }

scale_own : IsOwn (codes "scale")
scale_own = record { named = refl; help = refl; version = refl }

never_empty : (a : Arg) (id : Text) → a.id.now ≡ id → IsOwn id → a.id.now ≡ [] → ⊥
never_empty a id same own empty = differ id [] own.named (sym same ∙ empty)

never_auto : (a : Arg) (id : Text) → a.id.now ≡ id → IsOwn id → IsAuto a → ⊥
never_auto a id same own auto = elim auto [
  | inl help ↦ differ id (codes "help") own.help (sym same ∙ help)
  | inr version ↦ differ id (codes "version") own.version (sym same ∙ version)
]

one_value : (a : Arg) → a.num_vals ≡ None → 1 ≤ least_values a
one_value a none =
    subst (λ (v : Option ValueRange). 1 ≤ (unwrap_or_range v).start_inclusive) (sym none) (omega arith)

-- ---- the names

name_given : (c : Command) (m : ArgMatches) → app_of c ≡ command → IsParsedFrom c m → (k : ℕ) (id : Text) → k < 4
    → ((r : Rule) → slice_index_or rules k r ≡ name id) → IsOwn id
    → is_some (first_value (found_of m) id) ≡ true
name_given c m is p k id few at own =
    let len = four c is in
    let lt : k < length (args_of c) = omega arith in
    let d = first_arg (args_of c) (omega arith) in
    let rule = rule_at c is k d (name id) lt ∙ at (name id) in
    let a = slice_index_or (args_of c) k d in
    let same : a.id.now ≡ id = ap (λ (r : Rule). r.id) rule in
    let some = required_has_value c m p (plain c is) (simple c is).globals (negates c is) k d lt
    (ap (λ (r : Rule). r.required) rule) (ap (λ (r : Rule). r.action) rule) ((simple c is).args k d lt).delimiter
    (one_value a (ap (λ (r : Rule). r.range) rule)) (only c is k d lt) (never_empty a id same own)
    (never_auto a id same own) in
    subst (λ (t : Text). is_some (first_value (found_of m) t) ≡ true) same some

-- ---- the number

-- an entry with an id is found by it
is_found : (xs : List Entry) (id : Text) → HasIn xs id
    → is_some (option_map (λ e. e.1) (find (λ e. bytes_eq e.0.now id) xs)) ≡ true
is_found [] id h =
    let lt : h.0 < 0 = h.1 in
    absurd (omega arith)
is_found (x ∷ xs) id h = go (bytes_eq x.0.now id) refl h.0 h.1 h.2 (is_found xs id)
  where
    go : (t : Bool) → bytes_eq x.0.now id ≡ t → (i : ℕ) → i < length (x ∷ xs)
        → ((d : Entry) → bytes_eq (slice_index_or (x ∷ xs) i d).0.now id ≡ true)
        → (HasIn xs id → is_some (option_map (λ e. e.1) (find (λ e. bytes_eq e.0.now id) xs)) ≡ true)
        → is_some (option_map (λ e. e.1) (find (λ e. bytes_eq e.0.now id) (x ∷ xs))) ≡ true
    go true t i lt at more = rw t refl
    go false t zero lt at more =
        let yes : bytes_eq x.0.now id ≡ true = at x in
        cc
    go false t (suc i) lt at more = rw t (more (i, omega arith, at))

-- the arguments of a built command that have the option's id are as the option is
record IsOption (a : Arg) : Type 0 where
  action : a.action ≡ Some Set
  parser : a.value_parser ≡ Some (Signed (pos 0) (pos 6))
  least : 1 ≤ least_values a
  delimiter : a.val_delim ≡ None

-- an argument with the option's id that has a property
abbrev HasOption : Command → (Arg → Type 0) → Type 0
HasOption c P = (a : Arg) × IsOption a × P a

as_option : (c : Command) (m : ArgMatches) → app_of c ≡ command → (p : IsParsedFrom c m) (P : Arg → Type 0)
    → Any (λ a. (bytes_eq a.id.now (codes "scale") ≡ true) × P a) (args_of p.built) → HasOption p.built P
as_option c m is p P any =
    let len = four c is in
    let lt : 3 < length (args_of c) = omega arith in
    let rule = rule_at c is 3 any.1 scale lt in
    let a = slice_index_or (args_of c) 3 any.1 in
    let same : a.id.now ≡ codes "scale" = ap (λ (r : Rule). r.id) rule in
    let set : a.action ≡ Some Set = ap (λ (r : Rule). r.action) rule in
    let s = same_rules_by_id c m p 3 any.1 lt (only c is 3 any.1 lt) (never_auto a (codes "scale") same scale_own)
    any.0 any.1 any.2 any.3 (rw same any.4.0) in (
      any.1,
      record {
        action = s.action Set set;
        parser = s.parser (Signed (pos 0) (pos 6)) (ap (λ (r : Rule). r.parser) rule);
        least = s.least set (one_value a (ap (λ (r : Rule). r.range) rule));
        delimiter = s.val_delim ∙ ((simple c is).args 3 any.1 lt).delimiter;
      },
      any.4.1,
    )

-- the option's value passes its parser
option_accepts : (c : Command) (v : Text) → HasOption c (λ a. Accepts a.ignore_case (parser_of a) v)
    → IsSignedIn (pos 0) (pos 6) v
option_accepts c v h = subst (λ (q : ValueParser). Accepts h.0.ignore_case q v) (ap parser_of_value h.1.parser) h.2

option_reads : (c : Command) (r : Reading) → HasOption c (λ a. reading_of (parser_of a) ≡ r) → r ≡ WithoutMinus
option_reads c r h = sym h.2 ∙ ap (λ (v : Option ValueParser). reading_of (parser_of_value v)) h.1.parser

never_counts : (c : Command) → HasOption c (λ a. unwrap_or a.action Set ≡ Count) → ⊥
never_counts c h =
    let set : Set ≡ Count = sym (ap (λ (x : Option ArgAction). unwrap_or x Set) h.1.action) ∙ h.2 in
    cc

never_empty_option : (c : Command) → HasOption c MayBeEmpty → ⊥
never_empty_option c h = elim h.2 [
  | inl none ↦
      let one = h.1.least in
      absurd (omega arith)
  | inr cut ↦
      let bad : false ≡ true = rw h.1.delimiter at cut in
      cc
]

-- the text of the first of some values
first_text : (f : Found) (x : MatchedArg) → matched_of f (codes "scale") ≡ Some x → x.reading ≡ WithoutMinus
    → (vs : List (Bor Text)) → vs ≡ x.vals.items → 0 < length vs → All (λ v. IsSignedIn (pos 0) (pos 6) v.now) vs
    → (t : Text) × (one_text f (codes "scale") ≡ Some (without_minus t)) × IsSignedIn (pos 0) (pos 6) t
first_text f x found reads [] is lt all = absurd (omega arith)
first_text f x found reads (v ∷ vs) is lt all = (v.now, rw (found, reads, ← is) refl, all 0 v (omega arith))

-- the option's entry has a number
entry_number : (c : Command) (m : ArgMatches) → app_of c ≡ command → (p : IsParsedFrom c m) (x : MatchedArg)
    → matched_of (found_of m) (codes "scale") ≡ Some x → (e : Entry) → e.1 ≡ x → e.0.now ≡ codes "scale"
    → EntryPasses p.built e
    → (t : Text) × (one_text (found_of m) (codes "scale") ≡ Some (without_minus t)) × IsSignedIn (pos 0) (pos 6) t
entry_number c m is p x found e same key passes =
    let no_groups : groups_of p.built ≡ [] = (p.from.plain (plain c is)).1 in
    let no_group : e.1.is_group ≡ true → ⊥ = λ g. elim (passes.3 g) [
      | inl empty ↦ differ (codes "scale") [] refl (sym key ∙ empty)
      | inr lots ↦
          let bad : 0 < 0 = rw no_groups at lots in
          absurd (omega arith)
    ] in
    let values : All (λ v. IsSignedIn (pos 0) (pos 6) v.now) e.1.vals.items = elim passes.0 [
      | inl g ↦ absurd (no_group g)
      | inr vals ↦ λ k d lt. option_accepts p.built _ (as_option c m is p _ (rw key at (vals k d lt)))
    ] in
    let reads : e.1.reading ≡ WithoutMinus = elim passes.4 [
      | inl g ↦ absurd (no_group g)
      | inr r ↦ option_reads p.built _ (as_option c m is p _ (rw key at r))
    ] in
    let some : 0 < length e.1.vals.items = elim passes.1 [
      | inl g ↦ absurd (no_group g.0)
      | inr (inl has) ↦ has
      | inr (inr (inl count)) ↦ absurd (never_counts p.built (as_option c m is p _ (rw key at count.1)))
      | inr (inr (inr none)) ↦ absurd (never_empty_option p.built (as_option c m is p _ (rw key at none)))
    ] in
    first_text (found_of m) x found (ap (λ (y : MatchedArg). y.reading) (sym same) ∙ reads) e.1.vals.items
    (ap (λ (y : MatchedArg). y.vals.items) same) some values

number_found : (c : Command) (m : ArgMatches) → app_of c ≡ command → (p : IsParsedFrom c m) (o : Option MatchedArg)
    → matched_of (found_of m) (codes "scale") ≡ o → is_some o ≡ true
    → (t : Text) × (one_text (found_of m) (codes "scale") ≡ Some (without_minus t)) × IsSignedIn (pos 0) (pos 6) t
number_found c m is p None found some = cc
number_found c m is p (Some x) found some =
    let parsed = p.parsed (p.from.globals ∙ (simple c is).globals) in
    let got = entry_by_id (EntryPasses p.built) (found_of m).entries.items (codes "scale") x parsed.values found in
    entry_number c m is p x found got.0 got.1 ((bytes_eq-Decides got.0.0.now (codes "scale")).0 got.2) got.3

has_default : (c : Command) (m : ArgMatches) → app_of c ≡ command → IsParsedFrom c m
    → HasIn (found_of m).entries.items (codes "scale")
has_default c m is p =
    let len = four c is in
    let lt : 3 < length (args_of c) = omega arith in
    let d = first_arg (args_of c) (omega arith) in
    let rule = rule_at c is 3 d scale lt in
    let a = slice_index_or (args_of c) 3 d in
    let ifs = ((simple c is).args 3 d lt).default_ifs in
    let one : length (map (λ s. s.now) (items_of a.default_vals)) ≡ 1 = ap (λ (r : Rule). length r.defaults) rule in
    let many = length-map (items_of a.default_vals) (λ (s : Bor Text). s.now) in
    let wants : WantsDefault a = (ifs, omega arith) in
    subst (λ (t : Text). HasIn (found_of m).entries.items t) (ap (λ (r : Rule). r.id) rule)
    (default_present c m p (simple c is).globals 3 d lt wants)

-- ---- all of them

pub has_all : (c : Command) (m : ArgMatches) → app_of c ≡ command → IsParsedFrom c m → HasAll (found_of m)
has_all c m is p =
    let found = found_of m in
    let entry = is_found found.entries.items (codes "scale") (has_default c m is p) in (
      name_given c m is p 0 (codes "MODEL") (omega arith) (λ r. refl) model_own,
      name_given c m is p 1 (codes "SCRIPT") (omega arith) (λ r. refl) script_own,
      name_given c m is p 2 (codes "OUT") (omega arith) (λ r. refl) out_own,
      number_found c m is p (matched_of found (codes "scale")) refl entry,
    )
