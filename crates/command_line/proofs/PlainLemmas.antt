-- Plain command lines are read.
use Rattle.std.proofs.Common.{◌≡◌, ◌≤◌, ◌∙◌, ◌+◌, ◌++◌, ℕ, zero, suc, ap, sym, arith, refl, inl, inr, codes, pos, true, false, List, [], ◌∷◌, Option, Some, None}
use Rattle.clap.specs.Kinds.{Kinds, or_else}
use Rattle.clap.specs.Lexer.{without_minus}
use Rattle.clap.specs.ValueTests.{accepts}
use Rattle.clap.specs.Walk.{finished, nothing_held}
use Rattle.clap.specs.Words.{Text}
use Rattle.clap.specs.declared.builder.value_parser.ValueParser.TheVariants as parser
use Rattle.clap.proofs.OnLiterals.{clap_on_literals}
use Rattle.command_line.specs.Job.{Job, job_of, number}
use Rattle.command_line.specs.Plain.{Spells, is_plain, put_in}
use Rattle.command_line.proofs.Walks.{and_then, asking, at, asked, both_pass, given, held, job_after, job_in, name_passes, no_more, number_passes, option_passes, top, value_free}

-- three plain words without the option
pub no_option : (a b c : Text) → is_plain a ≡ true → is_plain b ≡ true → is_plain c ≡ true
    → job_of (a ∷ b ∷ c ∷ []) ≡ Some (record { model = a; script = b; out = c; scale = 6 })
unfolding clap_on_literals
no_option a b c pa pb pc =
    let h1 = held 1 a nothing_held in
    let h2 = held 2 b h1 in
    let h3 = held 3 c h2 in
    job_after (a ∷ b ∷ c ∷ []) (at h3 4)
    (and_then _ _ (name_passes nothing_held 1 a pa refl refl)
    (and_then _ _ (name_passes h1 2 b pb refl refl)
    (and_then _ _ (name_passes h2 3 c pc refl refl) (no_more _))))

-- three plain words, and the option without its number
pub no_number : (a b c : Text) → is_plain a ≡ true → is_plain b ≡ true → is_plain c ≡ true
    → job_of (a ∷ b ∷ c ∷ codes "--scale" ∷ []) ≡ None
unfolding clap_on_literals
no_number a b c pa pb pc =
    let h1 = held 1 a nothing_held in
    let h2 = held 2 b h1 in
    let h3 = held 3 c h2 in
    job_after (a ∷ b ∷ c ∷ codes "--scale" ∷ []) (asking (asked [] h3) 4)
    (and_then _ _ (name_passes nothing_held 1 a pa refl refl)
    (and_then _ _ (name_passes h1 2 b pb refl refl)
    (and_then _ _ (name_passes h2 3 c pc refl refl)
    (and_then _ _ (option_passes h3 4 refl) (no_more _)))))

-- the number of the option: a plain word that its parser takes
abbrev IsNumber : Text → Type 0
IsNumber v = (is_plain v ≡ true) × (accepts false (parser.Signed (pos 0) (pos 6)) v ≡ true)

-- the job of three names and the number
abbrev job_with : Text → Text → Text → Text → Option Job
job_with a b c v = Some (record { model = a; script = b; out = c; scale = number (without_minus v) })

-- the option in two words, before the names
two_at_0 : (a b c v : Text) → is_plain a ≡ true → is_plain b ≡ true → is_plain c ≡ true → IsNumber v
    → job_of (codes "--scale" ∷ v ∷ a ∷ b ∷ c ∷ []) ≡ job_with a b c v
unfolding clap_on_literals
two_at_0 a b c v pa pb pc n =
    let h0 = asked (v ∷ []) nothing_held in
    let h1 = held 1 a h0 in
    let h2 = held 2 b h1 in
    let h3 = held 3 c h2 in
    job_after (codes "--scale" ∷ v ∷ a ∷ b ∷ c ∷ []) (at h3 4)
    (and_then _ _ (option_passes nothing_held 1 refl)
    (and_then _ _ (number_passes nothing_held 1 v n.0)
    (and_then _ _ (name_passes h0 1 a pa refl (value_free v n.1))
    (and_then _ _ (name_passes h1 2 b pb refl refl)
    (and_then _ _ (name_passes h2 3 c pc refl refl) (no_more _))))))

-- after the first name
two_at_1 : (a b c v : Text) → is_plain a ≡ true → is_plain b ≡ true → is_plain c ≡ true → IsNumber v
    → job_of (a ∷ codes "--scale" ∷ v ∷ b ∷ c ∷ []) ≡ job_with a b c v
unfolding clap_on_literals
two_at_1 a b c v pa pb pc n =
    let h1 = held 1 a nothing_held in
    let h0 = asked (v ∷ []) h1 in
    let h2 = held 2 b h0 in
    let h3 = held 3 c h2 in
    job_after (a ∷ codes "--scale" ∷ v ∷ b ∷ c ∷ []) (at h3 4)
    (and_then _ _ (name_passes nothing_held 1 a pa refl refl)
    (and_then _ _ (option_passes h1 2 refl)
    (and_then _ _ (number_passes h1 2 v n.0)
    (and_then _ _ (name_passes h0 2 b pb refl (value_free v n.1))
    (and_then _ _ (name_passes h2 3 c pc refl refl) (no_more _))))))

-- after the second
two_at_2 : (a b c v : Text) → is_plain a ≡ true → is_plain b ≡ true → is_plain c ≡ true → IsNumber v
    → job_of (a ∷ b ∷ codes "--scale" ∷ v ∷ c ∷ []) ≡ job_with a b c v
unfolding clap_on_literals
two_at_2 a b c v pa pb pc n =
    let h1 = held 1 a nothing_held in
    let h2 = held 2 b h1 in
    let h0 = asked (v ∷ []) h2 in
    let h3 = held 3 c h0 in
    job_after (a ∷ b ∷ codes "--scale" ∷ v ∷ c ∷ []) (at h3 4)
    (and_then _ _ (name_passes nothing_held 1 a pa refl refl)
    (and_then _ _ (name_passes h1 2 b pb refl refl)
    (and_then _ _ (option_passes h2 3 refl)
    (and_then _ _ (number_passes h2 3 v n.0)
    (and_then _ _ (name_passes h0 3 c pc refl (value_free v n.1)) (no_more _))))))

-- after the third
two_at_3 : (a b c v : Text) → is_plain a ≡ true → is_plain b ≡ true → is_plain c ≡ true → IsNumber v
    → job_of (a ∷ b ∷ c ∷ codes "--scale" ∷ v ∷ []) ≡ job_with a b c v
unfolding clap_on_literals
two_at_3 a b c v pa pb pc n =
    let h1 = held 1 a nothing_held in
    let h2 = held 2 b h1 in
    let h3 = held 3 c h2 in
    let h0 = asked (v ∷ []) h3 in
    job_after (a ∷ b ∷ c ∷ codes "--scale" ∷ v ∷ []) (at h0 4)
    (and_then _ _ (name_passes nothing_held 1 a pa refl refl)
    (and_then _ _ (name_passes h1 2 b pb refl refl)
    (and_then _ _ (name_passes h2 3 c pc refl refl)
    (and_then _ _ (option_passes h3 4 refl)
    (and_then _ _ (number_passes h3 4 v n.0) (no_more _))))))
    ∙ ap (λ (k : Kinds). job_in k (finished top.rules h0)) (ap (λ (k : Kinds). or_else k []) (value_free v n.1))

-- the option in one word, before the names
one_at_0 : (a b c v : Text) → is_plain a ≡ true → is_plain b ≡ true → is_plain c ≡ true → IsNumber v
    → job_of ((codes "--scale=" ++ v) ∷ a ∷ b ∷ c ∷ []) ≡ job_with a b c v
unfolding clap_on_literals
one_at_0 a b c v pa pb pc n =
    let h0 = given v nothing_held in
    let h1 = held 1 a h0 in
    let h2 = held 2 b h1 in
    let h3 = held 3 c h2 in
    job_after ((codes "--scale=" ++ v) ∷ a ∷ b ∷ c ∷ []) (at h3 4)
    (and_then _ _ (both_pass nothing_held 1 v refl (value_free v n.1))
    (and_then _ _ (name_passes h0 1 a pa refl refl)
    (and_then _ _ (name_passes h1 2 b pb refl refl)
    (and_then _ _ (name_passes h2 3 c pc refl refl) (no_more _)))))

-- after the first name
one_at_1 : (a b c v : Text) → is_plain a ≡ true → is_plain b ≡ true → is_plain c ≡ true → IsNumber v
    → job_of (a ∷ (codes "--scale=" ++ v) ∷ b ∷ c ∷ []) ≡ job_with a b c v
unfolding clap_on_literals
one_at_1 a b c v pa pb pc n =
    let h1 = held 1 a nothing_held in
    let h0 = given v h1 in
    let h2 = held 2 b h0 in
    let h3 = held 3 c h2 in
    job_after (a ∷ (codes "--scale=" ++ v) ∷ b ∷ c ∷ []) (at h3 4)
    (and_then _ _ (name_passes nothing_held 1 a pa refl refl)
    (and_then _ _ (both_pass h1 2 v refl (value_free v n.1))
    (and_then _ _ (name_passes h0 2 b pb refl refl)
    (and_then _ _ (name_passes h2 3 c pc refl refl) (no_more _)))))

-- after the second
one_at_2 : (a b c v : Text) → is_plain a ≡ true → is_plain b ≡ true → is_plain c ≡ true → IsNumber v
    → job_of (a ∷ b ∷ (codes "--scale=" ++ v) ∷ c ∷ []) ≡ job_with a b c v
unfolding clap_on_literals
one_at_2 a b c v pa pb pc n =
    let h1 = held 1 a nothing_held in
    let h2 = held 2 b h1 in
    let h0 = given v h2 in
    let h3 = held 3 c h0 in
    job_after (a ∷ b ∷ (codes "--scale=" ++ v) ∷ c ∷ []) (at h3 4)
    (and_then _ _ (name_passes nothing_held 1 a pa refl refl)
    (and_then _ _ (name_passes h1 2 b pb refl refl)
    (and_then _ _ (both_pass h2 3 v refl (value_free v n.1))
    (and_then _ _ (name_passes h0 3 c pc refl refl) (no_more _)))))

-- after the third
one_at_3 : (a b c v : Text) → is_plain a ≡ true → is_plain b ≡ true → is_plain c ≡ true → IsNumber v
    → job_of (a ∷ b ∷ c ∷ (codes "--scale=" ++ v) ∷ []) ≡ job_with a b c v
unfolding clap_on_literals
one_at_3 a b c v pa pb pc n =
    let h1 = held 1 a nothing_held in
    let h2 = held 2 b h1 in
    let h3 = held 3 c h2 in
    let h0 = given v h3 in
    job_after (a ∷ b ∷ c ∷ (codes "--scale=" ++ v) ∷ []) (at h0 4)
    (and_then _ _ (name_passes nothing_held 1 a pa refl refl)
    (and_then _ _ (name_passes h1 2 b pb refl refl)
    (and_then _ _ (name_passes h2 3 c pc refl refl)
    (and_then _ _ (both_pass h3 4 v refl (value_free v n.1)) (no_more _)))))

-- a digit from 0 to 6 is such a number
digit_is : (n : ℕ) → n ≤ 6 → IsNumber ((48 + n) ∷ []) × (number (without_minus ((48 + n) ∷ [])) ≡ n)
digit_is zero few = ((refl, refl), refl)
digit_is (suc zero) few = ((refl, refl), refl)
digit_is (suc (suc zero)) few = ((refl, refl), refl)
digit_is (suc (suc (suc zero))) few = ((refl, refl), refl)
digit_is (suc (suc (suc (suc zero)))) few = ((refl, refl), refl)
digit_is (suc (suc (suc (suc (suc zero))))) few = ((refl, refl), refl)
digit_is (suc (suc (suc (suc (suc (suc zero)))))) few = ((refl, refl), refl)
digit_is (suc (suc (suc (suc (suc (suc (suc n))))))) few = absurd (omega arith)

two_anywhere : (place : ℕ) → place ≤ 3 → (a b c v : Text) → is_plain a ≡ true → is_plain b ≡ true → is_plain c ≡ true
    → IsNumber v → job_of (put_in place (codes "--scale" ∷ v ∷ []) (a ∷ b ∷ c ∷ [])) ≡ job_with a b c v
two_anywhere zero few = two_at_0
two_anywhere (suc zero) few = two_at_1
two_anywhere (suc (suc zero)) few = two_at_2
two_anywhere (suc (suc (suc zero))) few = two_at_3
two_anywhere (suc (suc (suc (suc n)))) few = absurd (omega arith)

one_anywhere : (place : ℕ) → place ≤ 3 → (a b c v : Text) → is_plain a ≡ true → is_plain b ≡ true → is_plain c ≡ true
    → IsNumber v → job_of (put_in place ((codes "--scale=" ++ v) ∷ []) (a ∷ b ∷ c ∷ [])) ≡ job_with a b c v
one_anywhere zero few = one_at_0
one_anywhere (suc zero) few = one_at_1
one_anywhere (suc (suc zero)) few = one_at_2
one_anywhere (suc (suc (suc zero))) few = one_at_3
one_anywhere (suc (suc (suc (suc n)))) few = absurd (omega arith)

-- the job with its scale replaced by an equal number
with_number : (job : Job) (n : ℕ) → n ≡ job.scale → Some (record job { scale = n }) ≡ Some job
with_number job n same = ap (λ (k : ℕ). Some (record job { scale = k })) same

-- words that spell a job plainly give it
pub spelled_read : (job : Job) (words : List Text) → Spells job words → job_of words ≡ Some job
spelled_read job words h = elim h.spelled [
  | inl plain ↦ ap job_of plain.0 ∙ no_option job.model job.script job.out h.model h.script h.out
      ∙ with_number job 6 (sym plain.1)
  | inr scaled ↦
      let digit = digit_is job.scale scaled.2 in
      elim scaled.3 [
        | inl two ↦ ap job_of two
            ∙ two_anywhere scaled.0 scaled.1 job.model job.script job.out _ h.model h.script h.out digit.0
            ∙ with_number job _ digit.1
        | inr one ↦ ap job_of one
            ∙ one_anywhere scaled.0 scaled.1 job.model job.script job.out _ h.model h.script h.out digit.0
            ∙ with_number job _ digit.1
      ]
]
