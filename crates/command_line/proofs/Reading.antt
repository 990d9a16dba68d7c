-- From what clap found to the job of the words.
use Rattle.std.proofs.Common.{◌≡◌, ◌∙◌, ap, sym, refl, ℕ, List, [], ◌∷◌, inl, inr, false, arith, Option, Some, None, codes, option_map}
use Rattle.std.specs.Option.{option_map_or}
use Rattle.std.proofs.lemmas.Bool.{ne_eqb}
use Rattle.clap.specs.Kinds.{HasKind, Kinds}
use Rattle.clap.specs.Walk.{is_empty}
use Rattle.clap.specs.Words.{kind_of, Text, fault_of, first_of, first_value, matches_of, one_of, rows_of}
use Rattle.clap.specs.declared.error.Error.{Error}
use Rattle.clap.specs.declared.parser.matches.Found.{Found}
use Rattle.clap.proofs.WalkLemmas.{first_value-rows, one_text-rows}
use Rattle.command_line.specs.Job.{command, job_of, number}
use Rattle.command_line.specs.Found.{IsFound, IsThere, fault_of_kind}
use Rattle.command_line.specs.declared.job.JobFault.TheVariants.{NoMemory, Refused}
use Rattle.command_line.proofs.Walks.{job_in}

-- a name's word is the same in what was found and in the words
word_is : (words : List Text) (found : Found) (id t : Text) → rows_of found ≡ matches_of command words
    → first_value found id ≡ Some t → first_of id (matches_of command words) ≡ Some t
word_is words found id t rows is = ap (first_of id) (sym rows) ∙ sym (first_value-rows found id) ∙ is

pub there : (words : List Text) (found : Found) (model script out : Text) (n : ℕ)
    → rows_of found ≡ matches_of command words → IsFound model script out n found → IsThere model script out words
there words found model script out n rows is = (
  word_is words found (codes "MODEL") model rows is.0,
  word_is words found (codes "SCRIPT") script rows is.1,
  word_is words found (codes "OUT") out rows is.2,
)

-- a number that is there is the one that is read
number_there : (o : Option Text) (n : ℕ) → option_map number o ≡ Some n → option_map_or number o 6 ≡ n
number_there None n is = cc
number_there (Some t) n is = ap (λ (o : Option ℕ). option_map_or (λ k. k) o 6) is

-- words in which clap finds these names and this number give their job
pub read : (words : List Text) (found : Found) (model script out : Text) (n : ℕ) → fault_of command words ≡ []
    → rows_of found ≡ matches_of command words → IsFound model script out n found
    → job_of words ≡ Some (record { model = model; script = script; out = out; scale = n })
unfolding job_of
read words found model script out n free rows is =
    let at = there words found model script out n rows is in
    let text : option_map number (one_of (codes "scale") (matches_of command words)) ≡ Some n =
    ap (λ r. option_map number (one_of (codes "scale") r)) (sym rows)
    ∙ ap (option_map number) (sym (one_text-rows found (codes "scale"))) ∙ is.3 in
    let scale = number_there (one_of (codes "scale") (matches_of command words)) n text in
    ap (λ k. job_in k (matches_of command words)) free ∙ rw (at.0, at.1, at.2, scale) refl

-- words that clap finds fault with, for another cause than memory, give no job
pub refused : (words : List Text) (e : Error) → HasKind (fault_of command words) e → fault_of_kind (kind_of e) ≡ Refused
    → job_of words ≡ None
unfolding job_of
refused words e has is = go (fault_of command words) refl has
  where
    go : (kinds : Kinds) → fault_of command words ≡ kinds → HasKind kinds e
        → job_in (fault_of command words) (matches_of command words) ≡ None
    go [] same has = elim has [
      | inl memory ↦
          let bad : NoMemory ≡ Refused = rw memory at is in
          cc
      | inr none ↦ absurd none
    ]
    go (k ∷ ks) same has =
        let some : is_empty (k ∷ ks) ≡ false = ne_eqb _ _ (λ none. omega arith) in
        ap (λ (kinds : Kinds). job_in kinds (matches_of command words)) same ∙ rw some refl
