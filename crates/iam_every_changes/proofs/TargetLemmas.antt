-- Targets, and what all that is looked at tells.
use Rattle.std.proofs.Common.{◌≡◌, ◌<◌, [], ◌++◌, ◌∙◌, ◌||◌, inl, inr, ℕ, All, false, Contains, List, ap, filter, get_or, length, map, subst, sym}
use Rattle.std.proofs.lemmas.List.Elements.{All-contains, Contains-get_or}
use Rattle.std.proofs.lemmas.Option.{slice_get_within}
use Rattle.iam_layers.specs.Laws.{OneDecisionAt, OneRequest}
use Rattle.iam_layers.specs.Unnamed.{IsThere}
use Rattle.iam_layers.specs.declared.unnamed.Unnamed.{Unnamed}
use Rattle.iam_every.specs.Every.{AreThere, EveryValue, LineValue, Says}
use Rattle.iam_every.specs.OwnActions.{OwnActionGroupsAreGroups}
use Rattle.iam_every.proofs.FirstLemmas.{of_firsts}
use Rattle.iam_every.proofs.LineLemmas.{at_in}
use Rattle.iam_every.proofs.ListLemmas.{mapped}
use Rattle.iam_every.proofs.MemberLemmas.{chosen_in, right_fits}
use Rattle.iam_every_changes.specs.Changes.{AreAllTold, IsRightIn, changed_of, is_told}
use Rattle.iam_every_changes.specs.Code.Given.{AreUtf8, target_of}
use Rattle.iam_every_changes.specs.Code.Looked.{Adds}
use Rattle.iam_every_changes.specs.Made.{AreEveryChanges, AreMade, AreOwnTexts, AreTargets, IsAsked, IsTarget, TargetValue, has_rows, own_texts}
use Rattle.iam_every_changes.specs.States.{AreBoth, BothValue}
use Rattle.iam_every_changes.specs.declared.looked.Looked.{Looked}
use Rattle.iam_every_changes.specs.declared.own.Target.{Target}
use Rattle.iam_every_changes.proofs.JoinLemmas.{all_members}
use Rattle.iam_every_changes.proofs.RightLemmas.{made_right}
use Rattle.iam_every_changes.proofs.WholeLemmas.{made_whole}

-- what is said of a text is there
says_there : (every : EveryValue) (text : List ℕ) (unnamed : Unnamed) → AreThere every → Says every text unnamed → IsThere every.world unnamed
says_there every text unnamed there (k, line, first, inl (r, (resource, at, is), like)) =
    subst (IsThere every.world) (sym like) (slice_get_within every.world.resources r resource at)
says_there every text unnamed there (k, line, first, inr (never, is)) =
    subst (IsThere every.world) (sym is)
    (All-contains (λ (l : LineValue). IsThere every.world l.unnamed) every.lines line there (at_in every.lines k line first.at))

pub record TargetThere (both : BothValue) (target : TargetValue) : Type 0 where
  pub was : IsThere both.before.every.world target.was
  pub now : IsThere both.after.every.world target.now

target_there : (both : BothValue) (targets : List TargetValue) (target : TargetValue) → AreBoth both → AreTargets both targets → Contains targets target
    → TargetThere both target
target_there both targets target is (texts, own, fit) among =
    let (text, inside, its) = right_fits (IsTarget both) texts targets target fit among in record {
      was = says_there both.before.every text target.was is.before.there its.was;
      now = says_there both.after.every text target.now is.after.there its.now;
    }

pub target_at : (both : BothValue) (targets : List Target) (i : ℕ) (d : Target) → AreBoth both → AreTargets both (map target_of targets) → i < length targets
    → TargetThere both (target_of (get_or targets i d))
target_at both targets i d is are below =
    target_there both (map target_of targets) (target_of (get_or targets i d)) is are
    (mapped target_of (get_or targets i d) targets (Contains-get_or targets i d below))

-- each text that is looked at by itself is matched
pub own_asked : (both : BothValue) (texts : List (List ℕ)) → AreOwnTexts both texts → All (IsAsked both.after.every.lines) texts
own_asked both texts (asked, chosen, firsts) =
    all_members (IsAsked both.after.every.lines) texts (λ text among.
    (chosen_in (IsAsked both.after.every.lines) (own_texts both) asked text chosen (of_firsts [] asked texts text firsts among)).1)

-- all that is looked at, from nothing on, is all changes
pub all_changes : OneRequest → OneDecisionAt → OwnActionGroupsAreGroups → (both : BothValue) (old new : Looked) → AreBoth both → AreUtf8 both
    → old.rows.items ≡ [] → old.some ≡ false → Adds old (AreMade both) new
    → AreEveryChanges both (map changed_of new.rows.items) new.some
all_changes one decisions tell both old new is utf8 no_rows nothing (more, made, gains) =
    let told : map changed_of new.rows.items ≡ filter is_told more =
    gains.rows ∙ ap (λ l. map changed_of l ++ filter is_told more) no_rows in
    record {
      right = subst (All (IsRightIn both)) (sym told) (made_right both more is made);
      whole = subst (AreAllTold both) (sym told) (made_whole one decisions tell both more is utf8 made);
      looked = more;
      made = made;
      told = told;
      is_some = gains.some ∙ ap (λ b. b || has_rows more) nothing;
    }
