-- One report of two worlds, and one end of a run on them.
use Rattle.std.proofs.Common.{◌≡◌, ◌≢◌, ◌⊎◌, inl, inr, ℕ, List, ◌++◌, Some, Ok, Err, refl, sym, ap, ◌∙◌, subst}
use Rattle.iam_world.specs.Reads.{IsWorld}
use Rattle.iam_world.specs.World.{WorldValue}
use Rattle.iam_world.specs.WorldFault.{IsFirstWorldFault}
use Rattle.iam_world.specs.declared.fault.WorldFault.{WorldFault}
use Rattle.iam_world.specs.declared.fault.WorldFault.TheVariants as w
use Rattle.iam_selection.specs.Selection.{SelectionValue}
use Rattle.iam_changes.specs.RequestLaws.{OneTwice}
use Rattle.iam_changes.specs.Twice.{IsApart, IsFirstTwice}
use Rattle.iam_changes.specs.declared.twice.Twice.{Twice}
use Rattle.iam_changes.specs.Change.{AskedValue}
use Rattle.iam_changes.specs.Laws.{OneChangesReport}
use Rattle.iam_changes.specs.declared.change.Kinds.{Kinds}
use Rattle.iam_options.specs.declared.changes.ChangesOptions.{ChangesOptions}
use Rattle.iam_app.specs.Changes.{EndsChangesBy, HasSide, IsAskedChanges, IsChangesOutput, IsNoWorld, IsSide, IsTwiceIn, WritesChanges}
use Rattle.iam_app.specs.Output.{format_of}
use Rattle.iam_app.specs.ChangesLaws
use Rattle.iam_app.specs.ChangesLaws.{IsOfWorlds}
use Rattle.iam_app.specs.declared.changes_fault.ChangesFault.{ChangesFault}
use Rattle.iam_app.specs.declared.changes_fault.ChangesFault.TheVariants as c
use Rattle.iam_app.specs.declared.changes_fault.Side.TheVariants as side
use Rattle.iam_app.specs.declared.fault.RunFault.TheVariants as f
use Rattle.iam_app.proofs.OneOutput.{goes_on}

-- the laws of the crates below
pub record Given : Type 0 where
  pub worlds : (bytes : List ℕ) (world other : WorldValue) → IsWorld bytes world → IsWorld bytes other → world ≡ other
  pub faults : (bytes : List ℕ) (fault other : WorldFault) → IsFirstWorldFault bytes fault → IsFirstWorldFault bytes other → fault ≡ other
  pub not_both : (bytes : List ℕ) (world : WorldValue) (fault : WorldFault) → IsWorld bytes world → ¬ IsFirstWorldFault bytes fault
  pub twices : OneTwice
  pub reports : OneChangesReport

-- ---- the report

pub one_changes_output : Given → ChangesLaws.OneChangesOutput
one_changes_output g options other selection first second text text' kinds kinds' same (before, after, (is, apart), (is_after, apart_after), h) (before', after', (is', apart'), (is_after', apart_after'), k) =
    let asked : AskedValue = record { selection = selection; all = other.all } in
    let one : before' ≡ before = g.worlds first before' before is' is in
    let two : after' ≡ after = g.worlds second after' after is_after' is_after in
    let was : IsAskedChanges other selection before after text kinds = subst (λ (o : ChangesOptions). IsAskedChanges o selection before after text kinds) (sym same) h.1 in
    let also : IsAskedChanges other selection before after text' kinds' =
    subst (λ w. IsAskedChanges other selection before w text' kinds') two (subst (λ w. IsAskedChanges other selection w after' text' kinds') one k.1) in
    g.reports (format_of other.json) other.brief asked before after text text' kinds kinds' apart apart_after was also

-- ---- one of two inputs

-- why bytes are not taken as one of two worlds
abbrev IsBad : List ℕ → WorldFault ⊎ Twice → Type 0
IsBad bytes (inl fault) = (fault ≢ w.OutOfMemory) × IsNoWorld (Some bytes) fault
IsBad bytes (inr twice) = IsTwiceIn (Some bytes) twice

first_fault : (bytes : List ℕ) (fault : WorldFault) → fault ≢ w.OutOfMemory → IsNoWorld (Some bytes) fault → IsFirstWorldFault bytes fault
first_fault bytes fault some (inl (more, is)) = subst (IsFirstWorldFault bytes) (sym is) (inl (more, refl))
first_fault bytes fault some (inr (all_bytes, all, few, h)) = subst (λ b. IsFirstWorldFault b fault) all (h some)

side_of : (bytes : List ℕ) (world : WorldValue) → HasSide (Some bytes) world → IsSide bytes world
side_of bytes world (all_bytes, all, h) = subst (λ b. IsSide b world) all h

twice_of : (bytes : List ℕ) (twice : Twice) → IsTwiceIn (Some bytes) twice → (world : WorldValue) × IsWorld bytes world × IsFirstTwice world twice
twice_of bytes twice (all_bytes, world, all, is, first) = (world, subst (λ b. IsWorld b world) all is, first)

-- bytes that are taken have nothing of this kind, and others have one thing
not_bad : Given → (bytes : List ℕ) (world : WorldValue) (bad : WorldFault ⊎ Twice) → IsSide bytes world → ¬ IsBad bytes bad
not_bad g bytes world (inl fault) (is, apart) (some, h) = g.not_both bytes world fault is (first_fault bytes fault some h)
not_bad g bytes world (inr twice) (is, apart) h =
    let (world', is', first) = twice_of bytes twice h in
    let one : world ≡ world' = g.worlds bytes world world' is is' in
    (subst IsApart one apart) twice.axis twice.number first.stands

one_bad : Given → (bytes : List ℕ) (bad other : WorldFault ⊎ Twice) → IsBad bytes bad → IsBad bytes other → bad ≡ other
one_bad g bytes (inl fault) (inl fault') (some, h) (some', k) =
    ap inl (g.faults bytes fault fault' (first_fault bytes fault some h) (first_fault bytes fault' some' k))
one_bad g bytes (inl fault) (inr twice) (some, h) k =
    let (world, is, first) = twice_of bytes twice k in
    absurd (g.not_both bytes world fault is (first_fault bytes fault some h))
one_bad g bytes (inr twice) (inl fault) h (some, k) =
    let (world, is, first) = twice_of bytes twice h in
    absurd (g.not_both bytes world fault is (first_fault bytes fault some k))
one_bad g bytes (inr twice) (inr twice') h k =
    let (world, is, first) = twice_of bytes twice h in
    let (world', is', first') = twice_of bytes twice' k in
    let one : world' ≡ world = g.worlds bytes world' world is' is in
    ap inr (g.twices world twice twice' first (subst (λ w. IsFirstTwice w twice') one first'))

-- ---- a run

abbrev fault_first : WorldFault ⊎ Twice → ChangesFault
fault_first (inl fault) = c.Before fault
fault_first (inr twice) = c.Twice side.Before twice

abbrev fault_second : WorldFault ⊎ Twice → ChangesFault
fault_second (inl fault) = c.Run (f.World fault)
fault_second (inr twice) = c.Twice side.After twice

-- the fault is of the first bytes; or the first are taken, and it is of the second
abbrev Why : List ℕ → List ℕ → ChangesFault → Type 0
Why first second fault =
    ((bad : WorldFault ⊎ Twice) × (fault ≡ fault_first bad) × IsBad first bad)
    ⊎ ((bad : WorldFault ⊎ Twice) × (before : WorldValue) × (fault ≡ fault_second bad) × IsSide first before × IsBad second bad)

ended : (options : ChangesOptions) (selection : SelectionValue) (first second held new : List ℕ) (fault : ChangesFault) → IsOfWorlds fault
    → EndsChangesBy options selection (Some first) (Some second) (Some held) (Some new) fault → (new ≡ held) × Why first second fault
ended options selection first second held new fault (inl (of_world, some, inl is)) h =
    let e = subst (EndsChangesBy options selection (Some first) (Some second) (Some held) (Some new)) is h in
    let kept : Some new ≡ Some held = e.0 in
    ((cc), inl (inl of_world, is, (some, e.1)))
ended options selection first second held new fault (inl (of_world, some, inr is)) h =
    let e = subst (EndsChangesBy options selection (Some first) (Some second) (Some held) (Some new)) is h in
    let kept : Some new ≡ Some held = e.0 in
    let (before, has) = e.1 in
    ((cc), inr (inl of_world, before, is, side_of first before has, (some, e.2)))
ended options selection first second held new fault (inr (side.Before, twice, is)) h =
    let e = subst (EndsChangesBy options selection (Some first) (Some second) (Some held) (Some new)) is h in
    let kept : Some new ≡ Some held = e.0 in
    ((cc), inl (inr twice, is, e.1))
ended options selection first second held new fault (inr (side.After, twice, is)) h =
    let e = subst (EndsChangesBy options selection (Some first) (Some second) (Some held) (Some new)) is h in
    let kept : Some new ≡ Some held = e.0 in
    let (before, has) = e.1 in
    ((cc), inr (inr twice, before, is, side_of first before has, e.2))

no_why : Given → (first second : List ℕ) (before after : WorldValue) (fault : ChangesFault) → IsSide first before → IsSide second after
    → ¬ Why first second fault
no_why g first second before after fault one two (inl (bad, is, h)) = not_bad g first before bad one h
no_why g first second before after fault one two (inr (bad, world, is, has, h)) = not_bad g second after bad two h

one_why : Given → (first second : List ℕ) (fault fault' : ChangesFault) → Why first second fault → Why first second fault' → fault ≡ fault'
one_why g first second fault fault' (inl (bad, is, h)) (inl (bad', is', k)) = is ∙ ap fault_first (one_bad g first bad bad' h k) ∙ sym is'
one_why g first second fault fault' (inl (bad, is, h)) (inr (bad', before, is', has, k)) = absurd (not_bad g first before bad has h)
one_why g first second fault fault' (inr (bad, before, is, has, h)) (inl (bad', is', k)) = absurd (not_bad g first before bad' has k)
one_why g first second fault fault' (inr (bad, before, is, has, h)) (inr (bad', before', is', has', k)) =
    is ∙ ap fault_second (one_bad g second bad bad' h k) ∙ sym is'

-- what a run left, where it had its report
written : (options : ChangesOptions) (selection : SelectionValue) (first second held new : List ℕ) (kinds : Kinds)
    → WritesChanges options selection (Some first) (Some second) (Some held) (Some new) kinds
    → (text : List ℕ) × IsChangesOutput options selection first second text kinds × (new ≡ held ++ text)
written options selection first second held new kinds (bytes, more, all, all_more, (text, is, appends)) = (
  text,
  subst (λ b. IsChangesOutput options selection b second text kinds) all (subst (λ b. IsChangesOutput options selection bytes b text kinds) all_more is),
  appends,
)

pub one_changes_end : Given → ChangesLaws.OneChangesEnd
one_changes_end g options other selection first second held new new' (Ok kinds) (Ok kinds') same at at' h k =
    let (text, is, left) = written options selection first second held new kinds h in
    let (text', is', left') = written other selection first second held new' kinds' k in
    let (texts, alike) = one_changes_output g options other selection first second text text' kinds kinds' same is is' in
    (ap Ok alike, left ∙ ap (λ t. held ++ t) texts ∙ sym left')
one_changes_end g options other selection first second held new new' (Ok kinds) (Err fault) same at at' h k =
    let (text, (before, after, one, two, report), left) = written options selection first second held new kinds h in
    absurd (no_why g first second before after fault one two (ended other selection first second held new' fault at' k).1)
one_changes_end g options other selection first second held new new' (Err fault) (Ok kinds) same at at' h k =
    let (text, (before, after, one, two, report), left) = written other selection first second held new' kinds k in
    absurd (no_why g first second before after fault one two (ended options selection first second held new fault at h).1)
one_changes_end g options other selection first second held new new' (Err fault) (Err fault') same at at' h k =
    let (kept, why) = ended options selection first second held new fault at h in
    let (kept', why') = ended other selection first second held new' fault' at' k in
    (ap Err (one_why g first second fault fault' why why'), kept ∙ sym kept')

pub one_changes_beginning : Given → ChangesLaws.OneChangesBeginning
one_changes_beginning g options other selection first second held new new' kinds same h (bytes, more, all, all_more, (text', kinds', is', (n, few, left'))) =
    let (text, is, left) = written options selection first second held new kinds h in
    let here = subst (λ b. IsChangesOutput other selection b second text' kinds') all (subst (λ b. IsChangesOutput other selection bytes b text' kinds') all_more is') in
    let (one, alike) = one_changes_output g options other selection first second text text' kinds kinds' same is here in
    goes_on held new new' text text' n one left left'
