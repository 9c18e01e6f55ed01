-- The groups that the statements that concern a request make are one list, and tell apart just what decisions do.
use Rattle.std.proofs.Common.{◌≡◌, ◌++◌, ◌↔◌, ℕ, List, [], Any, Bool, Contains, chars, false, map, true, sym, ap, ◌∙◌, subst}
use Rattle.std.specs.List.{AllZip, filter_map, flat_map}
use Rattle.iam_glob.specs.declared.sign.Sign.{Sign}
use Rattle.iam_text.specs.declared.draft.Piece.{Piece}
use Rattle.iam_kinds.specs.Kinds.{GroupMatches}
use Rattle.iam_context.specs.Context.{ContextValue}
use Rattle.iam_context.specs.Resolve.{resolved}
use Rattle.iam_element.specs.Reading.{ResourceElement}
use Rattle.iam_match.specs.Statement.{AccessValue, TextMatches}
use Rattle.iam_decision.specs.Matched.{Placed, placed}
use Rattle.iam_every.specs.Alike.{Concerns, Meets}
use Rattle.iam_every.specs.Code.Sides.{ReadNegated, ReadSides, Reads, SideMeets}
use Rattle.iam_every.specs.Groups.{AreGroups, side_of}
use Rattle.iam_every.specs.OwnGroups.{AreFirsts, AreNegatedGroups, AreSideGroups, HasElement, IsSideGroup, OneListOfGroups, OwnGroupsAreGroups, patterns_in}
use Rattle.iam_every.specs.declared.groups.Side.{Side}
use Rattle.iam_every.proofs.FirstLemmas.{in_firsts, one_firsts, one_selected, one_zipped}
use Rattle.iam_every.proofs.GroupLemmas.{are_groups, has_element}
use Rattle.iam_every.proofs.ListLemmas.{joined, mapped, of_joined, of_mapped}
use Rattle.iam_every.proofs.MemberLemmas.{chosen_in, group_of_texts, in_chosen, in_some, left_fits, right_fits, some_in}
use Rattle.iam_every.proofs.NamesLemmas.{one_some}

abbrev patterns_on : ContextValue → Placed → List (List Sign)
patterns_on context s = patterns_in context s.statement.resource

-- ---- what they read
-- the patterns of an element match the texts that it meets
meets_patterns : (context : ContextValue) (negated : Bool) (s : Placed) (text : List ℕ) → HasElement negated s
    → GroupMatches (patterns_on context s) (chars text) ↔ Meets context negated text s
meets_patterns context negated s text (element, is, sign) =
    let group = group_of_texts context element.texts text in
    let P : List (List Sign) → Type 0 = λ g. GroupMatches g (chars text) in
    let patterns : patterns_on context s ≡ filter_map (resolved context) element.texts = ap (patterns_in context) is in (
      λ m. (element, is, sign, group.0 (subst P patterns m)),
      λ (found, found_is, found_sign, some).
          let alike : found ≡ element = one_some s.statement.resource found element found_is is in
          subst P (sym patterns)
          (group.1 (subst (λ (ts : List (List Piece)). Any (TextMatches context text) ts) (ap (λ (e : ResourceElement). e.texts) alike) some)),
    )

side_reads : (access : AccessValue) (statements : List Placed) (side : Side) (group : List (List Sign)) → IsSideGroup access statements side group
    → Reads group (SideMeets access statements side)
side_reads access statements side group (own, chosen, is) text =
    let context = access.context in
    let On : Placed → Type 0 = λ s. HasElement false s × (side_of access.requester s ≡ side) in
    let Reads : Placed → Type 0 = λ s. (side_of access.requester s ≡ side) × Meets context false text s in
    let P : List (List Sign) → Type 0 = λ g. GroupMatches g (chars text) in (
      λ m.
          let (pattern, in', matches) = subst P is m in
          let (s, there, inside) = of_joined (patterns_on context) pattern own in' in
          let (among, (has, on)) = chosen_in On statements own s chosen there in
          in_some Reads statements s among (on, (meets_patterns context false s text has).0 (pattern, inside, matches)),
      λ some.
          let (s, among, (on, meets)) = some_in Reads statements some in
          let has = has_element access text false s meets in
          let there = in_chosen On statements own s chosen among (has, on) in
          let (pattern, inside, matches) = (meets_patterns context false s text has).1 meets in
          subst P (sym is) (pattern, joined (patterns_on context) s pattern own there inside, matches),
    )

read_sides : (access : AccessValue) (statements : List Placed) (groups : List (List (List Sign))) → AreSideGroups access statements groups
    → ReadSides access statements groups
read_sides access statements groups (sides, (stated, chosen, firsts), fit) =
    let side : Placed → Side = λ s. side_of access.requester s in
    let R : Side → List (List Sign) → Type 0 = IsSideGroup access statements in
    record {
      only = λ group in'.
          let (on, inside, is) = right_fits R sides groups group fit in' in (on, side_reads access statements on group is);
      whole = λ s in' has.
          let among = in_chosen (HasElement false) statements stated s chosen in' has in
          let there = in_firsts [] (map side stated) sides (side s) firsts (mapped side s stated among) in
          let (group, inside, is) = left_fits R sides groups (side s) fit there in (group, inside, side_reads access statements (side s) group is);
    }

read_negated : (context : ContextValue) (statements : List Placed) (groups : List (List (List Sign))) → AreNegatedGroups context statements groups
    → ReadNegated context statements groups
read_negated context statements groups (own, chosen, is) =
    let f : Placed → List (List Sign) = λ s. patterns_on context s in record {
      only = λ group in'.
          let (s, there, made) = of_mapped f group own (subst (λ (gs : List (List (List Sign))). Contains gs group) is in') in
          let (among, has) = chosen_in (HasElement true) statements own s chosen there in
          (s, among, subst (λ (g : List (List Sign)). Reads g (λ text. Meets context true text s)) made (λ text. meets_patterns context true s text has));
      whole = λ s in' has. (
        f s,
        subst (λ (gs : List (List (List Sign))). Contains gs (f s)) (sym is)
            (mapped f s own (in_chosen (HasElement true) statements own s chosen in' has)),
        λ text. meets_patterns context true s text has,
      );
    }

pub own_groups : OwnGroupsAreGroups
own_groups a access action groups own =
    subst (AreGroups a access action) (sym own.are)
    (are_groups a access action own.chosen own.sides own.negated own.concerned (read_sides access own.chosen own.sides own.of_sides)
    (read_negated access.context own.chosen own.negated own.of_negated))

-- ---- one list
one_side_group : (access : AccessValue) (statements : List Placed) (side : Side) (one other : List (List Sign))
    → IsSideGroup access statements side one → IsSideGroup access statements side other → one ≡ other
one_side_group access statements side one other (own, chosen, is) (found, selected, same) =
    let On : Placed → Type 0 = λ s. HasElement false s × (side_of access.requester s ≡ side) in
    is ∙ ap (flat_map (patterns_on access.context)) (one_selected On statements own found chosen selected) ∙ sym same

one_side_groups : (access : AccessValue) (statements : List Placed) (one other : List (List (List Sign)))
    → AreSideGroups access statements one → AreSideGroups access statements other → one ≡ other
one_side_groups access statements one other (sides, (stated, chosen, firsts), fit) (others, (found, selected, too), fits) =
    let side : Placed → Side = λ s. side_of access.requester s in
    let same_stated = one_selected (HasElement false) statements stated found chosen selected in
    let same : sides ≡ others = one_firsts [] (map side found) sides others
    (subst (λ (l : List Placed). AreFirsts [] (map side l) sides) same_stated firsts) too in
    one_zipped (IsSideGroup access statements) others one other (one_side_group access statements)
    (subst (λ (l : List Side). AllZip (IsSideGroup access statements) l one) same fit) fits

one_negated : (context : ContextValue) (statements : List Placed) (one other : List (List (List Sign)))
    → AreNegatedGroups context statements one → AreNegatedGroups context statements other → one ≡ other
one_negated context statements one other (own, chosen, is) (found, selected, same) =
    is ∙ ap (map (patterns_on context)) (one_selected (HasElement true) statements own found chosen selected) ∙ sym same

pub one_list_of_groups : OneListOfGroups
one_list_of_groups a access action one other own its =
    let chosen = one_selected (Concerns access action) (placed a) own.chosen its.chosen own.concerned its.concerned in
    let sides : own.sides ≡ its.sides = one_side_groups access its.chosen own.sides its.sides
    (subst (λ (l : List Placed). AreSideGroups access l own.sides) chosen own.of_sides) its.of_sides in
    let negated : own.negated ≡ its.negated = one_negated access.context its.chosen own.negated its.negated
    (subst (λ (l : List Placed). AreNegatedGroups access.context l own.negated) chosen own.of_negated) its.of_negated in
    own.are ∙ ap (λ l. l ++ own.negated) sides ∙ ap (λ l. its.sides ++ l) negated ∙ sym its.are
