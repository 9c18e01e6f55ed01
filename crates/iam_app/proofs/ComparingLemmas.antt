-- What lines say is there in both worlds, and how a run of two worlds for all names ends.
use Rattle.std.proofs.Common.{◌≡◌, ◌<◌, ◌∷◌, [], ◌++◌, ◌∙◌, inl, inr, zero, suc, ℕ, All, List, MatchOption, None, Option, Some, String, ap, arith, codes, length, map, option_map, refl, string_bytes, subst, sym, unwrap_or}
use Rattle.std.proofs.lemmas.Bool.{cases_lt}
use Rattle.std.proofs.lemmas.List.{length-map}
use Rattle.std.proofs.lemmas.List.Elements.{All-cons, All-head, All-nil, All-tail}
use Rattle.std.specs.Bool.{⊤}
use Rattle.std.specs.Global.{Global}
use Rattle.std.specs.Io.KnownBytes.{Appends}
use Rattle.std.specs.List.{AllZip, slice_get}
use Rattle.iam_glob.specs.declared.sign.Sign.{Sign}
use Rattle.iam_decision.specs.Matched.{Selects}
use Rattle.iam_layers.specs.Cell.{principal_text}
use Rattle.iam_world.specs.World.{ResourceValue, WorldValue}
use Rattle.iam_asked.specs.Before.{AreLinesBefore, IsSaidBefore}
use Rattle.iam_asked.specs.TextLines.{IsKnown, SaidOfValue, TextLineValue, like_resource, of_account, text_line_of}
use Rattle.iam_asked.specs.Texts.{principal_texts, resource_texts}
use Rattle.iam_asked.specs.declared.texts.TextLine.{TextLine}
use Rattle.iam_asked.proofs.BeforeLemmas.{image_at}
use Rattle.iam_every.specs.Every.{EveryValue, line_of, pattern_in, written_in}
use Rattle.iam_every.specs.Every as every
use Rattle.iam_every.specs.declared.asked.Line.{Line}
use Rattle.iam_every.specs.declared.asked.Which.{Which}
use Rattle.iam_every_changes.specs.Compared.{AreComparable, ComparedValue, IsNumberIn, IsWho, WhoValue, both_at}
use Rattle.iam_every_changes.specs.States.{AreApart, AreBoth}
use Rattle.iam_every_changes.specs.declared.report.ChangesTold.{ChangesTold}
use Rattle.iam_changes.specs.Twice.{IsApart}
use Rattle.iam_changes.specs.declared.twice.Axis.TheVariants.{Resources}
use Rattle.iam_selection.specs.Selection.{pattern_of}
use Rattle.iam_options.specs.declared.every_changes.EveryChangesCommand.{EveryChangesCommand}
use Rattle.iam_app.specs.Changes.{HasSide}
use Rattle.iam_app.specs.Code.Comparing.{CanCompareNames, EndsAllBy, HasNoComparison, IsNotCompared, WritesAll}
use Rattle.iam_app.specs.Code.Naming.{AreKnown, IsLent, patterns_of}
use Rattle.iam_app.specs.Code.Sides.{IsNoSide, of_before}
use Rattle.iam_app.specs.EveryChanges.{AreAskedOf, AreWhosMeant, EndsNamesChangesBy, HasNamesChanges, IsLongComparison, IsWhoMeant}
use Rattle.iam_app.specs.Names.{IsAskedOf}
use Rattle.iam_app.specs.declared.changes_fault.ChangesFault.{ChangesFault}
use Rattle.iam_app.specs.declared.changes_fault.ChangesFault.TheVariants as c
use Rattle.iam_app.specs.declared.changes_fault.Side.TheVariants as side
use Rattle.iam_app.specs.declared.every_changes_fault.EveryChangesFault.{EveryChangesFault}
use Rattle.iam_app.specs.declared.every_changes_fault.EveryChangesFault.TheVariants as e
use Rattle.iam_app.specs.declared.fault.RunFault.TheVariants as f
use Rattle.iam_app.proofs.NamingLemmas.{all_lines, all_there}

-- ---- lines
below_at : {X : Type 0} (xs : List X) (i : ℕ) (x : X) → slice_get xs i ≡ Some x → i < length xs
below_at [] i x at = absurd (let wrong : ⊥ = cc in wrong)
below_at (y ∷ xs) zero x at = omega arith
below_at (y ∷ xs) (suc i) x at = let inside = below_at xs i x at in omega (arith, inside)

-- what is said before is there
said_known : (before after : WorldValue) (said was : SaidOfValue) → IsSaidBefore before after said was → IsKnown before was
said_known before after (like_resource n) was (text, m, at, first, is) =
    let long = length-map before.resources (λ (resource : ResourceValue). resource.arn) in
    let inside = below_at (resource_texts before) m text first.0 in
    subst (IsKnown before) (sym is) (let here : m < length before.resources = omega (arith, inside, long) in here)
said_known before after (of_account id) was (known, is) = subst (IsKnown before) (sym is) known

known_before : (before after : WorldValue) (lines were : List TextLineValue) → AreLinesBefore before after lines were → AreKnown before were
known_before before after [] [] are = All-nil _
known_before before after [] (y ∷ were) are = absurd are
known_before before after (x ∷ lines) [] are = absurd are
known_before before after (x ∷ lines) (y ∷ were) are =
    let K : TextLineValue → Type 0 = λ line. IsKnown before line.said in
    All-cons K y were (said_known before after x.said y.said are.0.1) (known_before before after lines were are.1)

-- their patterns are the same
pub same_patterns : (before after : WorldValue) (lines were : List TextLine) → AreLinesBefore before after (map text_line_of lines) (map text_line_of were)
    → patterns_of were ≡ patterns_of lines
same_patterns before after [] [] are = refl
same_patterns before after [] (y ∷ were) are = absurd are
same_patterns before after (x ∷ lines) [] are = absurd are
same_patterns before after (x ∷ lines) (y ∷ were) are =
    ap (λ (p : List ℕ). pattern_of p ∷ patterns_of were) are.0.0 ∙ ap (λ rest. pattern_of (string_bytes x.pattern) ∷ rest) (same_patterns before after lines were are.1)

lent_patterns : (lines : List TextLine) (lent : List Line) → AllZip IsLent lines lent → every.patterns_of (map line_of lent) ≡ patterns_of lines
lent_patterns [] [] are = refl
lent_patterns [] (y ∷ lent) are = absurd are
lent_patterns (x ∷ lines) [] are = absurd are
lent_patterns (x ∷ lines) (y ∷ lent) are =
    ap (λ (p : List Sign). p ∷ every.patterns_of (map line_of lent)) are.0.pattern
    ∙ ap (λ rest. pattern_of (string_bytes x.pattern) ∷ rest) (lent_patterns lines lent are.1)

-- ---- what is asked
-- by lines that are lent
abbrev pub asked_in : WorldValue → List Line → Which → EveryValue
asked_in world lent which = record { world = world; lines = map line_of lent; actions = pattern_in which; written = written_in which }

asked_by : (action : Option (String Global)) (world : WorldValue) (lines : List TextLine) (lent : List Line) (which : Which) → AllZip IsLent lines lent
    → pattern_in which ≡ option_map (λ text. pattern_of (string_bytes text)) action
    → written_in which ≡ unwrap_or (option_map string_bytes action) (codes "*")
    → IsAskedOf action world (map text_line_of lines) (asked_in world lent which)
asked_by action world lines lent which are pattern written = record {
  world_is = refl;
  lines = all_lines lines lent are;
  actions = pattern;
  written = written;
}

-- of both worlds
pub are_asked : (command : EveryChangesCommand) (before after : WorldValue) (lines were : List TextLine) (was now : List Line) (one other : Which)
    → AreLinesBefore before after (map text_line_of lines) (map text_line_of were) → AllZip IsLent were was → AllZip IsLent lines now
    → pattern_in one ≡ option_map (λ text. pattern_of (string_bytes text)) command.action
    → written_in one ≡ unwrap_or (option_map string_bytes command.action) (codes "*")
    → pattern_in other ≡ option_map (λ text. pattern_of (string_bytes text)) command.action
    → written_in other ≡ unwrap_or (option_map string_bytes command.action) (codes "*")
    → AreAskedOf command before after (map text_line_of lines) (record { before = asked_in before was one; after = asked_in after now other })
are_asked command before after lines were was now one other said are_was are_now pattern written same_pattern same_written = record {
  were = map text_line_of were;
  said = said;
  was = asked_by command.action before were was one are_was pattern written;
  now = asked_by command.action after lines now other are_now same_pattern same_written;
}

-- it can be compared
pub can_compare : (before after : WorldValue) (lines were : List TextLine) (was now : List Line) (one other : Which) → AreApart before → AreApart after
    → AreKnown after (map text_line_of lines) → AreLinesBefore before after (map text_line_of lines) (map text_line_of were)
    → AllZip IsLent were was → AllZip IsLent lines now → pattern_in one ≡ pattern_in other
    → CanCompareNames (record { before = asked_in before was one; after = asked_in after now other })
can_compare before after lines were was now one other apart_before apart_after known said are_was are_now same = record {
  there_before = all_there before were was are_was (known_before before after (map text_line_of lines) (map text_line_of were) said);
  there_after = all_there after lines now are_now known;
  apart_before = apart_before;
  apart_after = apart_after;
  patterns = lent_patterns were was are_was ∙ same_patterns before after lines were said ∙ sym (lent_patterns lines now are_now);
  actions = same;
}

-- ---- the report
pub not_compared : (command : EveryChangesCommand) (before after : WorldValue) (lines : List TextLineValue) (compared : ComparedValue)
    → AreAskedOf command before after lines compared → (fault : EveryChangesFault) → IsNotCompared command compared fault
    → HasNoComparison command before after lines fault
not_compared command before after lines compared asked (e.Changes (c.Run f.OutOfMemory)) is = tt
not_compared command before after lines compared asked e.Kinds is =
    let L : WorldValue → WorldValue → Type 0 = λ b a. IsLongComparison command b a compared in
    (compared, asked, subst (L before) asked.now.world_is (subst (λ b. L b compared.after.world) asked.was.world_is is))
not_compared command before after lines compared asked fault is = absurd is

-- ---- the run
-- where one of the worlds is not taken
pub no_before : (command : EveryChangesCommand) (first second file held : Option (List ℕ)) (fault : ChangesFault) → IsNoSide side.Before first fault
    → EndsNamesChangesBy command first second file held held (e.Changes (of_before fault))
no_before command first second file held (c.Run f.Read) h = refl
no_before command first second file held (c.Run (f.World fault)) h = (refl, h)
no_before command first second file held (c.Run f.OutOfMemory) h = refl
no_before command first second file held (c.Twice world twice) (is, h) =
    subst (λ s. EndsNamesChangesBy command first second file held held (e.Changes (c.Twice s twice))) (sym is) (refl, h)
no_before command first second file held fault h = absurd h

-- where both are
pub ends : (command : EveryChangesCommand) (first second file old new : Option (List ℕ)) (before after : WorldValue) → HasSide first before
    → HasSide second after → (fault : EveryChangesFault) → EndsAllBy command before after file old new fault
    → EndsNamesChangesBy command first second file old new fault
ends command first second file old new before after one two (e.Changes (c.Run f.Read)) (inl (kept, none)) = kept
ends command first second file old new before after one two (e.Changes (c.Run f.OutOfMemory)) (inl (kept, none)) = kept
ends command first second file old new before after one two (e.Texts faulty) (inl (kept, none)) = (kept, (before, after, one, two, none))
ends command first second file old new before after one two (e.BeforeTexts faulty) (inl (kept, none)) = (kept, (before, after, one, two, none))
ends command first second file old new before after one two e.LongTexts (inl (kept, none)) = (kept, (before, after, one, two, none))
ends command first second file old new before after one two fault (inl (kept, none)) = absurd none
ends command first second file old new before after one two (e.Changes (c.Run (f.Matrix fault))) (inr (lines, are, (kept, why))) =
    (kept, (before, after, one, two, (lines, are, why)))
ends command first second file old new before after one two (e.Changes (c.Run f.Write)) (inr (lines, are, (text, told, (compared, asked, is), begins))) =
    (told, (before, after, one, two, (lines, are, (compared, asked, (text, is, begins)))))
ends command first second file old new before after one two (e.Changes (c.Run f.OutOfMemory)) (inr (lines, are, (kept, why))) = kept
ends command first second file old new before after one two e.Kinds (inr (lines, are, (kept, long))) = (kept, (before, after, one, two, (lines, are, long)))
ends command first second file old new before after one two (e.Changes (c.Run f.Read)) (inr (lines, are, (kept, why))) = absurd why
ends command first second file old new before after one two (e.Changes (c.Run (f.World fault))) (inr (lines, are, (kept, why))) = absurd why
ends command first second file old new before after one two (e.Changes (c.Run f.NoSuchCell)) (inr (lines, are, (kept, why))) = absurd why
ends command first second file old new before after one two (e.Changes (c.Run (f.Cut fault))) (inr (lines, are, (kept, why))) = absurd why
ends command first second file old new before after one two (e.Changes (c.Twice world twice)) (inr (lines, are, (kept, why))) = absurd why
ends command first second file old new before after one two (e.Changes (c.Before fault)) (inr (lines, are, (kept, why))) = absurd why
ends command first second file old new before after one two (e.Texts faulty) (inr (lines, are, (kept, why))) = absurd why
ends command first second file old new before after one two (e.BeforeTexts faulty) (inr (lines, are, (kept, why))) = absurd why
ends command first second file old new before after one two e.LongTexts (inr (lines, are, (kept, why))) = absurd why

pub done : (command : EveryChangesCommand) (first second file old new : Option (List ℕ)) (before after : WorldValue) (told : ChangesTold) → HasSide first before
    → HasSide second after → WritesAll command before after file old new told → HasNamesChanges command first second file (Appends old new) told
done command first second file old new before after told one two (lines, are, (text, (compared, asked, is), appends)) =
    (before, after, one, two, (lines, are, (compared, asked, (text, is, appends))))

-- no text of a resource stands twice
apart : (world : WorldValue) → IsApart world → AreApart world
apart world once r s one other at there same =
    let arn : ResourceValue → List ℕ = λ resource. resource.arn in
    let here = image_at arn world.resources r one at in
    let too = image_at arn world.resources s other there ∙ ap (λ (t : List ℕ). Some t) (sym same) in
    elim (cases_lt r s) [
      | inl less ↦ absurd (once Resources s (r, one.arn, less, here, too))
      | inr most ↦ elim (cases_lt s r) [
        | inl more ↦ absurd (once Resources r (s, one.arn, more, too, here))
        | inr least ↦ omega (arith, most, least)
      ]
    ]

pub apart_in : (input : Option (List ℕ)) (world : WorldValue) → HasSide input world → AreApart world
apart_in input world (bytes, all, (is, once)) = apart world once

-- ---- principals
number_fits : (world : WorldValue) (text : List ℕ) (number : Option ℕ) → IsNumberIn world text number → MatchOption number ⊤ (λ p. p < length world.principals)
number_fits world text None is = tt
number_fits world text (Some p) is =
    let long = length-map world.principals principal_text in
    let inside = below_at (principal_texts world) p text is.0 in
    omega (arith, inside, long)

who_fits : (compared : ComparedValue) (text : List ℕ) (who : WhoValue) → CanCompareNames compared → IsWho compared.before.world compared.after.world text who
    → AreBoth (both_at compared who)
who_fits compared text who can is = record {
  before =
      record {
        principal = number_fits compared.before.world text who.before is.was;
        there = can.there_before;
        apart = can.apart_before;
      };
  after =
      record {
        principal = number_fits compared.after.world text who.after is.now;
        there = can.there_after;
        apart = can.apart_after;
      };
  patterns = can.patterns;
  actions = can.actions;
}

all_fit : (compared : ComparedValue) (texts : List (List ℕ)) (whos : List WhoValue) → CanCompareNames compared
    → AllZip (IsWho compared.before.world compared.after.world) texts whos → AreComparable compared whos
all_fit compared [] [] can are = All-nil _
all_fit compared [] (y ∷ whos) can are = absurd are
all_fit compared (x ∷ texts) [] can are = absurd are
all_fit compared (x ∷ texts) (y ∷ whos) can are =
    All-cons (λ who. AreBoth (both_at compared who)) y whos (who_fits compared x y can are.0) (all_fit compared texts whos can are.1)

some_fit : (P Q : WhoValue → Type 0) (all whos : List WhoValue) → Selects P all whos → All Q all → All Q whos
some_fit P Q [] whos is fit = subst (All Q) (sym is) (All-nil Q)
some_fit P Q (x ∷ all) whos (inl (holds, (rest, is, more))) fit =
    subst (All Q) (sym is) (All-cons Q x rest (All-head Q x all fit) (some_fit P Q all rest more (All-tail Q x all fit)))
some_fit P Q (x ∷ all) whos (inr (not, more)) fit = some_fit P Q all whos more (All-tail Q x all fit)

-- those that are meant can be compared
pub comparable : (compared : ComparedValue) (patterns : List (List Sign)) (whos : List WhoValue) → CanCompareNames compared
    → AreWhosMeant patterns compared.before.world compared.after.world whos → AreComparable compared whos
comparable compared patterns whos can (all, (alone, selects, are), chosen) =
    some_fit (IsWhoMeant patterns) (λ who. AreBoth (both_at compared who)) all whos chosen
    (all_fit compared (principal_texts compared.after.world ++ alone) all can are)
