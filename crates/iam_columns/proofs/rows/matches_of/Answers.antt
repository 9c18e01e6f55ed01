use Rattle.std.proofs.Common.{◌↔◌, ◌+◌, ◌∷◌, [], ℕ, Bool, IsTrue, List, Some, length, ap, sym, subst, ◌∙◌}
use Rattle.std.proofs.lemmas.List.{length-append}
use Rattle.iam_match.specs.Statement.{ResourceMatches}
use Rattle.iam_world.specs.World.{ResourceValue}
use Rattle.iam_columns.specs.Rows.{Tell, TellsMatch}
use Rattle.iam_columns.proofs.ListLemmas.{at_more, some_same}
use Rattle.iam_columns.proofs.rows.matches_of.Goals as goal

pub loop-r-preserved : goal.loop-r-preserved
loop-r-preserved c =
    let world = c.args.world.now in
    let element = Some c.args.fixed.now in
    let matches = c.loop-r.matches.items in
    let matched = c.matches-matched.result in
    let so_far = c.loop-r.invariant in
    let (resource, at, same) = c.resource_text.ensures in
    let own : TellsMatch world element c.loop-r.r matched = λ other context there.
    let T : List ℕ → Type 0 = λ text. IsTrue matched ↔ ResourceMatches element text context in
    subst T (same ∙ ap (λ (x : ResourceValue). x.arn) (some_same resource other (sym at ∙ there))) (c.matches-matched.ensures context) in
    let P : ℕ → Bool → Type 0 = TellsMatch world element in
    let Q : ℕ → Type 0 = λ n. P n matched in
    let L : List Bool → Type 0 = λ all. Tell (TellsMatch world element) all in
    record {
      count = ap (λ (all : List Bool). length all) c.in_ok-push.ensures.items ∙ length-append matches (matched ∷ []) ∙ ap (λ n. n + 1) so_far.count;
      are = subst L (sym c.in_ok-push.ensures.items) (at_more P matches matched (subst Q (sym so_far.count) own) so_far.are);
    }
