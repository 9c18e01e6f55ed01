use Rattle.std.proofs.Common.{◌≡◌, ◌∙◌, List, ℕ, false, true, length, map, ap, subst, sym}
use Rattle.std.proofs.lemmas.List.{length-map}
use Rattle.iam_kinds.specs.Answers.{question_in, signs_of}
use Rattle.std.specs.List.{Contains}
use Rattle.iam_glob.specs.Glob.{folded}
use Rattle.iam_kinds.specs.Code.{first_stage, folded_pattern}
use Rattle.iam_kinds.specs.Kinds.{folded_grammar, folded_question}
use Rattle.iam_kinds.specs.Shown.{AreKindsFold}
use Rattle.iam_kinds.specs.States.{Machine}
use Rattle.iam_kinds.specs.Walk.{Asks}
use Rattle.iam_kinds.proofs.AskedLemmas.{asks_ready, found_kinds, found_past}
use Rattle.iam_kinds.proofs.CasedLemmas.{patterns_folded}
use Rattle.iam_kinds.proofs.FoldLemmas.{asked_folded, folds_shown, kinds_cased, kinds_folded, map_twice}
use Rattle.iam_kinds.proofs.kinds.find_kinds_fold.Goals as goal

pub find_texts-requires : goal.find_texts-requires
find_texts-requires c =
    let own = question_in false c.args.grammar c.args.within.now c.args.groups.now c.args.named.now in
    let q = question_in true (folded_grammar c.args.grammar) c.args.within.now c.args.groups.now c.args.named.now in
    let within : length c.args.within.now ≡ length q.within = sym (length-map c.args.within.now (signs_of true)) in
    let groups : length c.args.groups.now ≡ length q.groups = sym (length-map c.args.groups.now (λ g. map (signs_of true) g.items)) in
    let named = ap (λ l. map (λ t. t.items) l) c.deref.ensures.value ∙ c.in_ok-named.ensures in
    let asked = c.of-asked.ensures q c.in_ok-table.ensures within groups c.folded.ensures named in
    let asks = subst (Asks c.of-asked.result) (asked_folded c.args.grammar c.args.within.now c.args.groups.now c.args.named.now) asked in
    asks_ready c.of-asked.result (folded_question own) asks

pub returns-in_default : goal.returns-in_default
returns-in_default c =
    let own = question_in false c.args.grammar c.args.within.now c.args.groups.now c.args.named.now in
    let q = question_in true (folded_grammar c.args.grammar) c.args.within.now c.args.groups.now c.args.named.now in
    let within : length c.args.within.now ≡ length q.within = sym (length-map c.args.within.now (signs_of true)) in
    let groups : length c.args.groups.now ≡ length q.groups = sym (length-map c.args.groups.now (λ g. map (signs_of true) g.items)) in
    let named = ap (λ l. map (λ t. t.items) l) c.deref.ensures.value ∙ c.in_ok-named.ensures in
    let asked = c.of-asked.ensures q c.in_ok-table.ensures within groups c.folded.ensures named in
    let asks = subst (Asks c.of-asked.result) (asked_folded c.args.grammar c.args.within.now c.args.groups.now c.args.named.now) asked in
    (found_past c.of-asked.result (folded_question own) asks).0 (rw c.in_default.is at c.in_ok-texts.ensures.none)

pub returns-then-first : goal.returns-then-first
returns-then-first c =
    let own = question_in false c.args.grammar c.args.within.now c.args.groups.now c.args.named.now in
    let q = question_in true (folded_grammar c.args.grammar) c.args.within.now c.args.groups.now c.args.named.now in
    let within : length c.args.within.now ≡ length q.within = sym (length-map c.args.within.now (signs_of true)) in
    let groups : length c.args.groups.now ≡ length q.groups = sym (length-map c.args.groups.now (λ g. map (signs_of true) g.items)) in
    let named = ap (λ l. map (λ t. t.items) l) c.deref.ensures.value ∙ c.in_ok-named.ensures in
    let asked = c.of-asked.ensures q c.in_ok-table.ensures within groups c.folded.ensures named in
    let asks = subst (Asks c.of-asked.result) (asked_folded c.args.grammar c.args.within.now c.args.groups.now c.args.named.now) asked in
    let texts = map (λ t. t.items) c.in-Some.texts.items in
    let are = found_kinds c.of-asked.result (folded_question own) texts asks (rw c.in-Some.is at c.in_ok-texts.ensures.some)
    (rw c.in-Some.is at c.in_ok-texts.ensures.least) in
    let fold : (first_stage c.args.grammar).fold ≡ true = sym (ap (λ s. s.fold) c.first.ensures) ∙ c.if-first.true in (
      subst (AreKindsFold own) (sym (c.in_ok-strings_of.ensures ∙ ap (λ l. map (λ t. t.items) l) c.as_slice.ensures.value))
          (kinds_folded own texts fold are),
      λ past. (rw c.in-Some.is at c.in_ok-texts.ensures.within) ((found_past c.of-asked.result (folded_question own) asks).1 past),
    )

pub cased_texts-requires-clause-ready : goal.cased_texts-requires-clause-ready
cased_texts-requires-clause-ready c =
    let own = question_in false c.args.grammar c.args.within.now c.args.groups.now c.args.named.now in
    let q = question_in true (folded_grammar c.args.grammar) c.args.within.now c.args.groups.now c.args.named.now in
    let within : length c.args.within.now ≡ length q.within = sym (length-map c.args.within.now (signs_of true)) in
    let groups : length c.args.groups.now ≡ length q.groups = sym (length-map c.args.groups.now (λ g. map (signs_of true) g.items)) in
    let named = ap (λ l. map (λ t. t.items) l) c.deref.ensures.value ∙ c.in_ok-named.ensures in
    let asked = c.of-asked.ensures q c.in_ok-table.ensures within groups c.folded.ensures named in
    let asks = subst (Asks c.of-asked.result) (asked_folded c.args.grammar c.args.within.now c.args.groups.now c.args.named.now) asked in
    asks_ready c.of-asked.result (folded_question own) asks

pub cased_texts-requires-clause-own : goal.cased_texts-requires-clause-own
cased_texts-requires-clause-own c =
    let own = question_in false c.args.grammar c.args.within.now c.args.groups.now c.args.named.now in
    let q = question_in true (folded_grammar c.args.grammar) c.args.within.now c.args.groups.now c.args.named.now in
    let within : length c.args.within.now ≡ length q.within = sym (length-map c.args.within.now (signs_of true)) in
    let groups : length c.args.groups.now ≡ length q.groups = sym (length-map c.args.groups.now (λ g. map (signs_of true) g.items)) in
    let named = ap (λ l. map (λ t. t.items) l) c.deref.ensures.value ∙ c.in_ok-named.ensures in
    let asked = c.of-asked.ensures q c.in_ok-table.ensures within groups c.folded.ensures named in
    let asks = subst (Asks c.of-asked.result) (asked_folded c.args.grammar c.args.within.now c.args.groups.now c.args.named.now) asked in
    ap (λ (m : Machine). m.patterns) asks.machine ∙ patterns_folded own ∙ ap (map folded_pattern) (sym c.in_ok-own.ensures)

pub cased_texts-requires-clause-folds : goal.cased_texts-requires-clause-folds
cased_texts-requires-clause-folds c =
    let own = question_in false c.args.grammar c.args.within.now c.args.groups.now c.args.named.now in
    let q = question_in true (folded_grammar c.args.grammar) c.args.within.now c.args.groups.now c.args.named.now in
    let within : length c.args.within.now ≡ length q.within = sym (length-map c.args.within.now (signs_of true)) in
    let groups : length c.args.groups.now ≡ length q.groups = sym (length-map c.args.groups.now (λ g. map (signs_of true) g.items)) in
    let named = ap (λ l. map (λ t. t.items) l) c.deref.ensures.value ∙ c.in_ok-named.ensures in
    let asked = c.of-asked.ensures q c.in_ok-table.ensures within groups c.folded.ensures named in
    let asks = subst (Asks c.of-asked.result) (asked_folded c.args.grammar c.args.within.now c.args.groups.now c.args.named.now) asked in
    let texts = map (λ t. t.items) c.in-Some.texts.items in
    let are = found_kinds c.of-asked.result (folded_question own) texts asks (rw c.in-Some.is at c.in_ok-texts.ensures.some)
    (rw c.in-Some.is at c.in_ok-texts.ensures.least) in
    let here = ap (λ l. map (λ t. t.items) l) c.as_slice-2.ensures.value in
    λ text h. folds_shown own texts are text (subst (λ (l : List (List ℕ)). Contains l text) here h)

pub returns : goal.returns
returns c =
    let own = question_in false c.args.grammar c.args.within.now c.args.groups.now c.args.named.now in
    let q = question_in true (folded_grammar c.args.grammar) c.args.within.now c.args.groups.now c.args.named.now in
    let within : length c.args.within.now ≡ length q.within = sym (length-map c.args.within.now (signs_of true)) in
    let groups : length c.args.groups.now ≡ length q.groups = sym (length-map c.args.groups.now (λ g. map (signs_of true) g.items)) in
    let named = ap (λ l. map (λ t. t.items) l) c.deref.ensures.value ∙ c.in_ok-named.ensures in
    let asked = c.of-asked.ensures q c.in_ok-table.ensures within groups c.folded.ensures named in
    let asks = subst (Asks c.of-asked.result) (asked_folded c.args.grammar c.args.within.now c.args.groups.now c.args.named.now) asked in
    let texts = map (λ t. t.items) c.in-Some.texts.items in
    let are = found_kinds c.of-asked.result (folded_question own) texts asks (rw c.in-Some.is at c.in_ok-texts.ensures.some)
    (rw c.in-Some.is at c.in_ok-texts.ensures.least) in
    let fold : (first_stage c.args.grammar).fold ≡ false = sym (ap (λ s. s.fold) c.first.ensures) ∙ c.if-first.false in
    let shown = map (λ t. t.items) c.in_ok-cased.cased.items in
    let same = map_twice (map folded) (λ t. t.items) c.in_ok-cased.cased.items ∙ c.in_ok-cased.ensures.same
    ∙ ap (λ l. map (λ t. t.items) l) c.as_slice-2.ensures.value in (
      subst (AreKindsFold own) (sym (c.in_ok-strings_of-2.ensures ∙ ap (λ l. map (λ t. t.items) l) c.as_slice-3.ensures.value))
          (kinds_cased own c.of-asked.result c.in_ok-own.own.patterns.items texts shown fold asks.machine c.in_ok-own.ensures are same c.in_ok-cased.ensures.cased),
      λ past. (rw c.in-Some.is at c.in_ok-texts.ensures.within) ((found_past c.of-asked.result (folded_question own) asks).1 past),
    )
