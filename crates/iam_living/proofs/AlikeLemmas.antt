-- What lives in requests for resources that no statement tells apart.
use Rattle.std.proofs.Common.{◌≡◌, inl, inr, ℕ, List, [], ◌∷◌, Some, sym, ap, refl, ◌∙◌, subst}
use Rattle.std.specs.List.{slice_get}
use Rattle.iam_match.specs.Statement.{AccessValue, ResourceMatches}
use Rattle.iam_decision.specs.Applicable.{frame_of}
use Rattle.iam_decision.specs.Living.{Lives, LivingValue}
use Rattle.iam_decision.specs.Matched.{Placed, Selects}
use Rattle.iam_decision.specs.declared.frame.Frame.{Frame}
use Rattle.iam_layers.specs.Applicable.{applicable_of}
use Rattle.iam_layers.specs.Code.Statements.{AreSameButPolicy}
use Rattle.iam_layers.specs.Derived.{IsDerived, context_of}
use Rattle.iam_world.specs.World.{ResourceValue, WorldValue}
use Rattle.iam_index.specs.Known.{AreAlike, TellNoneApart}
use Rattle.iam_index.proofs.ListLemmas.{some_same}
use Rattle.iam_living.specs.Listing.{AreAlikes, ListingValue, LiveAt, statements_of}
use Rattle.iam_living.specs.Living.{NoneConcerns}

-- the same are chosen of statements that do not tell the two apart
chosen_alike : (world : WorldValue) (r other : ℕ) (one two : ResourceValue) (access : AccessValue) (statements chosen : List Placed)
    → slice_get world.resources r ≡ Some one → slice_get world.resources other ≡ Some two → access.resource ≡ one.arn
    → TellNoneApart world statements r other → Selects (Lives access) statements chosen
    → Selects (Lives (record access { resource = two.arn })) statements chosen
chosen_alike world r other one two access [] chosen at there asked apart none = none
chosen_alike world r other one two access (s ∷ statements) chosen at there asked (both, apart) (inl (lives, (rest, is, more))) =
    let R : List ℕ → Type 0 = λ arn. ResourceMatches s.statement.resource arn access.context in
    inl (
      record {
        principal = lives.principal;
        resource = (both one two access.context at there).0 (subst R asked lives.resource);
        conditions = lives.conditions;
      },
      (rest, is, chosen_alike world r other one two access statements rest at there asked apart more),
    )
chosen_alike world r other one two access (s ∷ statements) chosen at there asked (both, apart) (inr (dead, more)) =
    let R : List ℕ → Type 0 = λ arn. ResourceMatches s.statement.resource arn access.context in
    inr (
      λ lives. dead
          (record {
            principal = lives.principal;
            resource = subst R (sym asked) ((both one two access.context at there).1 lives.resource);
            conditions = lives.conditions;
          }),
      chosen_alike world r other one two access statements chosen at there asked apart more,
    )

live_alike : (world : WorldValue) (p r other : ℕ) (statements : List Placed) (frame : Frame) (living : List LivingValue)
    → AreSameButPolicy world r other → TellNoneApart world statements r other → NoneConcerns world p other
    → LiveAt world p r statements frame living → LiveAt world p other statements frame living
live_alike world p r other statements frame living differ apart concerns live =
    let at = live.at in
    let old = live.access in
    let one = at.resource in
    let two = differ.two in
    let S : ResourceValue → Type 0 = λ x. two ≡ record x { arn = two.arn; policy = two.policy } in
    let same : two ≡ record one { arn = two.arn; policy = two.policy } =
    subst S (some_same differ.one one (sym differ.one_is ∙ at.resource_is)) differ.same in
    let D : ResourceValue → Type 0 = λ x. IsDerived world at.principal x at.derived in
    let F : ResourceValue → Type 0 = λ x. frame ≡ frame_of (applicable_of world at.principal x) in
    let C : ResourceValue → Type 0 =
    λ x.
    record old { resource = two.arn }
    ≡ record { requester = at.principal.requester; resource = two.arn; context = context_of world at.principal x at.derived } in
    let (chosen, selected, is) = live.living_are in
    let asked : old.resource ≡ one.arn = ap (λ (x : AccessValue). x.resource) at.access_is in
    let asks : old.requester ≡ at.principal.requester = ap (λ (x : AccessValue). x.requester) at.access_is in
    record {
      applicable = applicable_of world at.principal two;
      access = record old { resource = two.arn };
      at = record {
        principal = at.principal;
        resource = two;
        derived = at.derived;
        principal_is = at.principal_is;
        resource_is = differ.two_is;
        derived_is = subst D (sym same) at.derived_is;
        applicable_is = refl;
        access_is = subst C (sym same) (ap (λ (x : AccessValue). record x { resource = two.arn }) at.access_is);
      };
      frame_is = subst F (sym same) (live.frame_is ∙ ap frame_of at.applicable_is);
      living_are = (chosen, chosen_alike world r other one two old statements chosen at.resource_is differ.two_is asked apart selected, is);
      none = concerns (record old { resource = two.arn }) (at.principal, at.principal_is, asks);
    }

pub are_alikes : (listing : ListingValue) → AreAlike listing.world (statements_of listing) listing.alikes → AreAlikes listing
are_alikes listing alike p r other n frame living kept there concerns live =
    let (differ, apart) = alike r other n kept there in
    live_alike listing.world p r other (statements_of listing) frame living differ apart concerns live
