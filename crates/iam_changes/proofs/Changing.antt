-- What a change is: one at most, none where nothing else is said, and the turned one the other way.
use Rattle.std.proofs.Common.{◌≡◌, Any, Bool, true, false, List, Option, Some, None, refl, sym, ap, subst, ◌∙◌, inl, inr, ◌⊎◌}
use Rattle.std.specs.Bool.{one_answer}
use Rattle.iam_decision.specs.declared.verdict.Decision.{Decision}
use Rattle.iam_decision.specs.declared.verdict.Decision.TheVariants.{Allowed, ExplicitDeny, ImplicitDeny}
use Rattle.iam_decision.specs.declared.verdict.Verdict.{Verdict}
use Rattle.iam_row.specs.Changes.{allows}
use Rattle.iam_row.specs.declared.changes.Change.{Change}
use Rattle.iam_row.specs.declared.changes.Change.TheVariants.{Gained, Lost, Differs}
use Rattle.iam_changes.specs.Change.{AreUnlike, ChangeValue, Changes, IsReplaced, SaidValue}
use Rattle.iam_changes.specs.Laws.{turned_kind}
use Rattle.iam_changes.specs.Report.{HasKinds}
use Rattle.iam_changes.specs.declared.change.Kinds.{Kinds}

pub one_kind : (all : Bool) (x y : Option SaidValue) (c d : Change) → Changes all x y c → Changes all x y d → c ≡ d
one_kind all x y Gained Gained h k = refl
one_kind all x y Gained Lost (off, on) (held, gone) = absurd (let wrong : ⊥ = cc in wrong)
one_kind all x y Gained Differs (off, on) (every, same, more) = absurd (let wrong : ⊥ = cc in wrong)
one_kind all x y Lost Gained (held, gone) (off, on) = absurd (let wrong : ⊥ = cc in wrong)
one_kind all x y Lost Lost h k = refl
one_kind all x y Lost Differs (held, gone) (every, same, more) = absurd (let wrong : ⊥ = cc in wrong)
one_kind all x y Differs Gained (every, same, more) (off, on) = absurd (let wrong : ⊥ = cc in wrong)
one_kind all x y Differs Lost (every, same, more) (held, gone) = absurd (let wrong : ⊥ = cc in wrong)
one_kind all x y Differs Differs h k = refl

-- what is said is not unlike itself
alike : (said : SaidValue) → ¬ AreUnlike said said
alike said unlike = elim unlike [
  | inl other ↦ other refl
  | inr (same, (k, place, below, at, replaced)) ↦ replaced refl
]

-- and where two are unlike, each is unlike the other
unlike_back : (one other : SaidValue) → AreUnlike one other → AreUnlike other one
unlike_back one other unlike = elim unlike [
  | inl apart ↦ inl (λ e. apart (sym e))
  | inr (same, (k, place, below, at, replaced)) ↦
      inr (
        sym same,
        subst (λ (v : Verdict). Any (IsReplaced other.policies one.policies) v.statements) same
            (k, place, below, at, λ e. replaced (sym e)),
      )
]

-- where the same is said, nothing has changed
pub no_change : (all : Bool) (x y : Option SaidValue) (c : Change) → x ≡ y → ¬ Changes all x y c
no_change all x y Gained e (off, on) = let wrong : ⊥ = cc in wrong
no_change all x y Lost e (held, gone) = let wrong : ⊥ = cc in wrong
no_change all x y Differs e (every, same, (v, w, is, are, unlike)) =
    let one : v ≡ w = cc in
    alike v (subst (AreUnlike v) (sym one) unlike)

-- a change is of a request that one of the worlds has
pub some_side : (all : Bool) (x y : Option SaidValue) (c : Change) → Changes all x y c → ((v : SaidValue) × (x ≡ Some v)) ⊎ ((v : SaidValue) × (y ≡ Some v))
some_side all (Some v) y c h = inl (v, refl)
some_side all None (Some w) c h = inr (w, refl)
some_side all None None Gained (off, on) = absurd (let wrong : ⊥ = cc in wrong)
some_side all None None Lost (held, gone) = absurd (let wrong : ⊥ = cc in wrong)
some_side all None None Differs (every, same, (v, w, is, are, other)) = absurd (let wrong : ⊥ = cc in wrong)

pub turn : (all : Bool) (x y : Option SaidValue) (c : Change) → Changes all x y c → Changes all y x (turned_kind c)
turn all x y Gained (off, on) = (on, off)
turn all x y Lost (held, gone) = (gone, held)
turn all x y Differs (every, same, (v, w, is, are, unlike)) = (every, sym same, (w, v, are, is, unlike_back v w unlike))

pub turn_back : (all : Bool) (x y : Option SaidValue) (c : Change) → Changes all y x (turned_kind c) → Changes all x y c
turn_back all x y Gained (held, gone) = (gone, held)
turn_back all x y Lost (off, on) = (on, off)
turn_back all x y Differs (every, same, (v, w, is, are, unlike)) = (every, sym same, (w, v, are, is, unlike_back v w unlike))

-- ---- access

pub allows_only : (decision : Decision) → allows decision ≡ true → decision ≡ Allowed
allows_only Allowed e = refl
allows_only ExplicitDeny e = absurd (let wrong : ⊥ = cc in wrong)
allows_only ImplicitDeny e = absurd (let wrong : ⊥ = cc in wrong)

pub must : (b : Bool) → ¬ (b ≡ false) → b ≡ true
must true h = refl
must false h = absurd (h refl)

-- ---- which kinds there are

abbrev kinds_of : Bool → Bool → Bool → Kinds
kinds_of gained lost differs = record { gained = gained; lost = lost; differs = differs }

pub one_kinds : (changes : List ChangeValue) (k l : Kinds) → HasKinds changes k → HasKinds changes l → k ≡ l
one_kinds changes k l h g =
    ap (λ b. kinds_of b k.lost k.differs) (one_answer k.gained l.gained h.gained_is g.gained_is)
    ∙ ap (λ b. kinds_of l.gained b k.differs) (one_answer k.lost l.lost h.lost_is g.lost_is)
    ∙ ap (kinds_of l.gained l.lost) (one_answer k.differs l.differs h.differs_is g.differs_is)
