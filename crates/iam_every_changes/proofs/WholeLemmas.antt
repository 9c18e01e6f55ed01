-- All requests that are meant are told by what is looked at.
use Rattle.std.proofs.Common.{◌≡◌, ◌∷◌, [], ◌++◌, ◌∙◌, ◌⊎◌, inl, inr, ℕ, Bool, true, false, Contains, List, Some, ap, chars, codes, filter, length, refl, subst, sym}
use Rattle.std.proofs.lemmas.List.Elements.{Contains-append_left, Contains-append_right}
use Rattle.std.proofs.lemmas.Option.{slice_get_within}
use Rattle.std.specs.List.{range_with_len, slice_get}
use Rattle.std.specs.Str.{IsUtf8}
use Rattle.iam_glob.specs.Glob.{Matches}
use Rattle.iam_layers.specs.Laws.{OneDecisionAt, OneRequest}
use Rattle.iam_layers.specs.declared.unnamed.Unnamed.{Unnamed}
use Rattle.iam_layers.specs.declared.unnamed.Unnamed.TheVariants.{Like}
use Rattle.iam_asked.specs.Texts.{resource_texts}
use Rattle.iam_every.specs.Every.{EveryValue, IsFirst, IsResourceText, LineValue, Says, arn_signs}
use Rattle.iam_every.specs.OwnActions.{OwnActionGroupsAreGroups}
use Rattle.iam_every.proofs.FirstLemmas.{in_firsts}
use Rattle.iam_every.proofs.LineLemmas.{at_in, first_some, named_in, one_first}
use Rattle.iam_every.proofs.ListLemmas.{here, mapped}
use Rattle.iam_every.proofs.MemberLemmas.{in_chosen, left_fits}
use Rattle.iam_every.proofs.NamesLemmas.{one_some}
use Rattle.iam_every.proofs.TellingLemmas.{in_filter}
use Rattle.iam_every_changes.specs.Changes.{AreAlikeIn, AreAllTold, ChangedValue, HasSameAccess, IsToldBy, IsToldIn, IsUnshownIn, TellsBoth, is_change, is_told, is_told_by}
use Rattle.iam_every_changes.specs.Code.Given.{AreUtf8}
use Rattle.iam_every_changes.specs.Made.{AreMade, AreOfAction, AreOfLine, AreOfTarget, AreTargets, IsAsked, IsTarget, TargetValue, own_texts, unshown_row}
use Rattle.iam_every_changes.specs.States.{AreApart, AreBoth, BothValue, IsNamedIn}
use Rattle.iam_every_changes.proofs.ActionLemmas.{like_asked}
use Rattle.iam_every_changes.proofs.JoinLemmas.{alone_in, in_range, joined_in}
use Rattle.iam_every_changes.proofs.LineLemmas.{first_across, line_tells}
use Rattle.iam_every_changes.proofs.TellLemmas.{alike_tells, answer_tells, same_access}

-- ---- what is said of a text
-- of a text that at most one resource has one thing is said
pub one_says : (every : EveryValue) (text : List ℕ) (one other : Unnamed) → AreApart every.world → Says every text one → Says every text other → one ≡ other
one_says every text one other apart (k, line, first, inl (r, (resource, at, is), like)) (j, found, too, inl (s, (its, there, named), same)) =
    like ∙ ap (λ n. Like n) (apart r s resource its at there (is ∙ sym named)) ∙ sym same
one_says every text one other apart (k, line, first, inl (r, has, like)) (j, found, too, inr (never, same)) = absurd (never (r, has))
one_says every text one other apart (k, line, first, inr (never, is)) (j, found, too, inl (s, has, same)) = absurd (never (s, has))
one_says every text one other apart (k, line, first, inr (never, is)) (j, found, too, inr (nor, same)) =
    let number = one_first every.lines text j k found line too first in
    let lines = one_some (slice_get every.lines k) found line (subst (λ n. slice_get every.lines n ≡ Some found) number too.at) first.at in
    is ∙ ap (λ (x : LineValue). x.unnamed) (sym lines) ∙ sym same

-- ---- texts that are looked at one by one
-- the text is one of those
abbrev IsOwn : BothValue → List ℕ → Type 0
IsOwn both text = Contains (own_texts both) text

own_tells : (both : BothValue) (targets : List TargetValue) (rows : List ChangedValue) (action text : List ℕ) (was now : Unnamed) → AreBoth both
    → AreTargets both targets → AreOfAction both targets action rows → IsOwn both text → Says both.before.every text was → Says both.after.every text now
    → (row : ChangedValue) × Contains rows row × (row.action ≡ action) × TellsBoth both action text was now row
own_tells both targets rows action text was now is (texts, (asked, chosen, firsts), fit) of own says_was says_now =
    let (k, line, first, how) = says_now in
    let among = in_chosen (IsAsked both.after.every.lines) (own_texts both) asked text chosen own (first_some both.after.every.lines text k line first) in
    let (target, inside, its) = left_fits (IsTarget both) texts targets text fit (in_firsts [] asked texts text firsts among) in
    let (part, (verdicts, before, after, alone), lift) = joined_in (AreOfTarget both action) targets of.own target of.are_own inside in
    let same_was = one_says both.before.every text target.was was is.before.apart its.was says_was in
    let same_now = one_says both.after.every text target.now now is.after.apart its.now says_now in
    let row : ChangedValue = record { action = action; resource = target.text; verdicts = Some verdicts } in
    let there = lift row (alone_in row part alone) in
    let tells : TellsBoth both action target.text target.was target.now row = record {
      verdicts = verdicts;
      is = refl;
      before = answer_tells both.before action target.text target.was row verdicts.before refl refl before;
      after = answer_tells both.after action target.text target.now row verdicts.after refl refl after;
    } in (
      row,
      subst (λ (l : List ChangedValue). Contains l row) (sym of.are) (Contains-append_left of.own of.lined row there),
      refl,
      subst (λ (n : Unnamed). TellsBoth both action text was n row) same_now
          (subst (λ (u : Unnamed). TellsBoth both action text u target.now row) same_was
          (subst (λ (t : List ℕ). TellsBoth both action t target.was target.now row) its.is tells)),
    )

-- ---- texts of a line
lined_tells : OneRequest → (both : BothValue) (targets : List TargetValue) (rows : List ChangedValue) (action text : List ℕ) (k : ℕ) (was now : LineValue)
    → AreBoth both → AreUtf8 both → AreOfAction both targets action rows → IsUtf8 text → Matches arn_signs (chars text)
    → IsFirst both.before.every.lines text k was → IsFirst both.after.every.lines text k now → ¬ IsNamedIn both text
    → (row : ChangedValue) × Contains rows row × (row.action ≡ action) × (TellsBoth both action text was.unnamed now.unnamed row ⊎ IsUnshownIn both text row)
lined_tells one both targets rows action text k was now is utf8 of text_utf8 arn first_was first_now never =
    let below = slice_get_within both.after.every.lines k now first_now.at in
    let (part, made, lift) = joined_in (AreOfLine both action) (range_with_len 0 (length both.after.every.lines)) of.lined k of.are_lined
    (in_range (length both.after.every.lines) k below) in
    let (row, there, acts, how) = line_tells one both action k part text was now is.patterns utf8 made text_utf8 arn first_was first_now never in
    (row, subst (λ (l : List ChangedValue). Contains l row) (sym of.are) (Contains-append_right of.own of.lined row (lift row there)), acts, how)

-- ---- all texts, for an action that is looked at
abbrev Tells : BothValue → List ChangedValue → List ℕ → List ℕ → Unnamed → Unnamed → Type 0
Tells both rows action text was now =
    (row : ChangedValue) × Contains rows row × (row.action ≡ action)
    × (TellsBoth both action text was now row ⊎ (¬ IsNamedIn both text × IsUnshownIn both text row))

by_own : (both : BothValue) (rows : List ChangedValue) (action text : List ℕ) (was now : Unnamed)
    → ((row : ChangedValue) × Contains rows row × (row.action ≡ action) × TellsBoth both action text was now row) → Tells both rows action text was now
by_own both rows action text was now (row, there, acts, tells) = (row, there, acts, inl tells)

named_own : (both : BothValue) (text : List ℕ) → IsNamedIn both text → IsOwn both text
named_own both text (inl before) =
    Contains-append_right (resource_texts both.after.every.world) (resource_texts both.before.every.world ++ (codes "*" ∷ [])) text
    (Contains-append_left (resource_texts both.before.every.world) (codes "*" ∷ []) text (named_in both.before.every.world text before))
named_own both text (inr after) =
    Contains-append_left (resource_texts both.after.every.world) (resource_texts both.before.every.world ++ (codes "*" ∷ [])) text
    (named_in both.after.every.world text after)

star_own : (both : BothValue) → IsOwn both (codes "*")
star_own both =
    Contains-append_right (resource_texts both.after.every.world) (resource_texts both.before.every.world ++ (codes "*" ∷ [])) (codes "*")
    (Contains-append_right (resource_texts both.before.every.world) (codes "*" ∷ []) (codes "*") (here (codes "*") []))

action_tells : OneRequest → (both : BothValue) (targets : List TargetValue) (rows : List ChangedValue) (action text : List ℕ) (was now : Unnamed)
    → AreBoth both → AreUtf8 both → AreTargets both targets → AreOfAction both targets action rows → IsNamedIn both text ⊎ IsResourceText text
    → Says both.before.every text was → Says both.after.every text now → Tells both rows action text was now
action_tells one both targets rows action text was now is utf8 are of (inl named) says_was says_now =
    by_own both rows action text was now (own_tells both targets rows action text was now is are of (named_own both text named) says_was says_now)
action_tells one both targets rows action text was now is utf8 are of (inr resource) (j, old, first_was, inl (r, has, like)) says_now =
    by_own both rows action text was now
    (own_tells both targets rows action text was now is are of (named_own both text (inl (r, has))) (j, old, first_was, inl (r, has, like)) says_now)
action_tells one both targets rows action text was now is utf8 are of (inr resource) (j, old, first_was, inr how) (k, new, first_now, inl (r, has, like)) =
    by_own both rows action text was now
    (own_tells both targets rows action text was now is are of (named_own both text (inr (r, has))) (j, old, first_was, inr how)
    (k, new, first_now, inl (r, has, like)))
action_tells one both targets rows action text was now is utf8 are of (inr resource) (j, old, first_was, inr (never, old_is)) (k, new, first_now, inr (nor, new_is)) =
    elim resource.form [
      | inl star ↦
          by_own both rows action text was now
          (own_tells both targets rows action text was now is are of (subst (IsOwn both) (sym star) (star_own both))
          (j, old, first_was, inr (never, old_is)) (k, new, first_now, inr (nor, new_is)))
      | inr arn ↦
          let unnamed : ¬ IsNamedIn both text = λ named. elim named [ inl before ↦ never before | inr after ↦ nor after ] in
          let (found, found_first) = first_across both.after.every.lines both.before.every.lines text k new (sym is.patterns) first_now in
          let number = one_first both.before.every.lines text j k old found first_was found_first in
          let first_k : IsFirst both.before.every.lines text k old = subst (λ n. IsFirst both.before.every.lines text n old) number first_was in
          let (row, there, acts, how) = lined_tells one both targets rows action text k old new is utf8 of resource.utf8 arn first_k first_now unnamed in
          let told : TellsBoth both action text old.unnamed new.unnamed row ⊎ IsUnshownIn both text row = how in (
            row,
            there,
            acts,
            elim told [
              | inl tells ↦ inl (subst (λ (u : Unnamed). TellsBoth both action text u now row) (sym old_is)
                  (subst (λ (n : Unnamed). TellsBoth both action text old.unnamed n row) (sym new_is) tells))
              | inr unshown ↦ inr (unnamed, unshown)
            ],
          )
    ]

-- ---- all
-- a row that tells the request is told itself, or the request has the same access
told_or_same : OneDecisionAt → (both : BothValue) (looked : List ChangedValue) (action text : List ℕ) (was now : Unnamed) (row : ChangedValue)
    → Contains looked row → IsToldBy both action text was now row → HasSameAccess both action text was now ⊎ IsToldIn both (filter is_told looked) action text was now
told_or_same one both looked action text was now row there told = by_test (is_told row) refl told
  where
    by_test : (b : Bool) → is_told row ≡ b → IsToldBy both action text was now row
        → HasSameAccess both action text was now ⊎ IsToldIn both (filter is_told looked) action text was now
    by_test true is how = inr (row, in_filter is_told looked row there is, how)
    by_test false is (inl (before, after, inl tells)) =
        let unchanged : is_change tells.verdicts ≡ false = sym (ap is_told_by tells.is) ∙ is in
        inl (same_access one both action text was now row tells unchanged)
    by_test false is (inl (before, after, inr (never, unshown))) =
        let shown : true ≡ false = sym (ap is_told_by unshown.0) ∙ is in absurd (let wrong : ⊥ = cc in wrong)
    by_test false is (inr (pass, acts, unshown)) =
        let shown : true ≡ false = sym (ap is_told_by unshown.0) ∙ is in absurd (let wrong : ⊥ = cc in wrong)

pub made_whole : OneRequest → OneDecisionAt → OwnActionGroupsAreGroups → (both : BothValue) (looked : List ChangedValue) → AreBoth both → AreUtf8 both
    → AreMade both looked → AreAllTold both (filter is_told looked)
made_whole one decisions tell both looked is utf8 (inl (pass, rows)) action text was now meant resource says_was (k, line, first, how) =
    let row = unshown_row both.after.every.written line in
    let among = mapped (unshown_row both.after.every.written) line both.after.every.lines (at_in both.after.every.lines k line first.at) in
    told_or_same decisions both looked action text was now row (subst (λ (l : List ChangedValue). Contains l row) (sym rows) among)
    (inr (pass, refl, (refl, (refl, (k, line, first, refl)))))
made_whole one decisions tell both looked is utf8 (inr (targets, actions, are, asked, joined)) action text was now meant resource says_was says_now =
    let like = like_asked tell both actions action is.actions asked meant in
    let (part, of, lift) = joined_in (AreOfAction both targets) actions looked like.shown joined like.among in
    let (row, there, acts, how) = action_tells one both targets part like.shown text was now is utf8 are of resource says_was says_now in
    let alike : IsToldBy both action text was now row =
    inl (
      subst (λ (a : List ℕ). AreAlikeIn both.before a action) (sym acts) like.before,
      subst (λ (a : List ℕ). AreAlikeIn both.after a action) (sym acts) like.after,
      elim how [
        | inl tells ↦ inl (alike_tells both like.shown action text was now row like.before like.after says_was says_now tells)
        | inr unshown ↦ inr unshown
      ],
    ) in
    told_or_same decisions both looked action text was now row (lift row there) alike
