-- Conditions in order: which refusal is the first, and what holds where none is.
use Rattle.std.proofs.Common.{◌≡◌, Bool, true, false, List, [], ◌∷◌, Option, Some, None, refl, sym, ap, ◌∙◌}
use Rattle.mesh_model.specs.Complex.{Complex, counters_of}
use Rattle.mesh_model.specs.Refusals.{first_of, unless, refused_at, refused_of, limit_passed, unless_too_many}
use Rattle.mesh_model.specs.Valid.{IsWithinLimits}
use Rattle.mesh_model.specs.declared.names.Elem.{Elem}
use Rattle.mesh_model.specs.declared.names.Kind.{Kind}
use Rattle.mesh_model.specs.declared.refusal.Refusal.{Refusal}
use Rattle.mesh_model.specs.declared.refusal.Why.{Why}
use Rattle.mesh_model.specs.declared.refusal.Why.TheVariants.{TooMany}
use Rattle.mesh_model.specs.declared.refusal.Place.TheVariants.{Nowhere, Elem as AtElem}
use Rattle.mesh_model.proofs.LimitTests.{no_limit_passed}

-- the first condition fails
pub fails : (o : Option Refusal) (r : Refusal) (rest : List (Option Refusal)) → o ≡ Some r → Some r ≡ first_of (o ∷ rest)
fails None r rest h = absurd (cc)
fails (Some x) r rest h = sym h

pub fails_unless : (b : Bool) (why : Why) (rest : List (Option Refusal)) → b ≡ false
    → Some (record { why = why; place = Nowhere }) ≡ first_of (unless b why ∷ rest)
fails_unless true why rest h = absurd (cc)
fails_unless false why rest h = refl

-- it holds, so the others decide
pub holds : (o : Option Refusal) (rest : List (Option Refusal)) → o ≡ None → first_of rest ≡ first_of (o ∷ rest)
holds None rest h = refl
holds (Some x) rest h = absurd (cc)

pub holds_unless : (b : Bool) (why : Why) (rest : List (Option Refusal)) → b ≡ true
    → first_of rest ≡ first_of (unless b why ∷ rest)
holds_unless true why rest h = refl
holds_unless false why rest h = absurd (cc)

-- the last one decides alone
pub last_of : (o : Option Refusal) → o ≡ first_of (o ∷ [])
last_of None = refl
last_of (Some r) = refl

-- where none is refused, each condition holds
pub none_refused : (o : Option Refusal) (rest : List (Option Refusal)) → first_of (o ∷ rest) ≡ None
    → (o ≡ None) × (first_of rest ≡ None)
none_refused None rest h = (refl, h)
none_refused (Some r) rest h = absurd (cc)

pub unless_holds : (b : Bool) (why : Why) → unless b why ≡ None → b ≡ true
unless_holds true why h = refl
unless_holds false why h = absurd (cc)

pub at_none : (why : Why) (o : Option Elem) → refused_at why o ≡ None → o ≡ None
at_none why None h = refl
at_none why (Some x) h = absurd (cc)

of_none : (why : Why) (o : Option Kind) → refused_of why o ≡ None → o ≡ None
of_none why None h = refl
of_none why (Some x) h = absurd (cc)

pub within_limits : (d : Complex) → unless_too_many d ≡ None → IsWithinLimits d
within_limits d h = (no_limit_passed d).0 (of_none TooMany (limit_passed (counters_of d)) h)
