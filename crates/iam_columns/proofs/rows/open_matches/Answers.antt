use Rattle.std.proofs.Common.{◌+◌, ◌∷◌, [], ℕ, Any, Bool, List, Some, length, ap, sym, subst, ◌∙◌}
use Rattle.std.proofs.lemmas.List.{length-append}
use Rattle.std.specs.Str.{chars}
use Rattle.iam_glob.specs.Glob.{Matches}
use Rattle.iam_world.specs.World.{ResourceValue}
use Rattle.iam_columns.specs.Rows.{Tell, TellsMayMatch}
use Rattle.iam_columns.proofs.ListLemmas.{at_more, some_same}
use Rattle.iam_columns.proofs.rows.open_matches.Goals as goal

pub loop-r-preserved : goal.loop-r-preserved
loop-r-preserved c =
    let world = c.args.world.now in
    let matches = c.loop-r.matches.items in
    let matched = c.may_match-matched.result in
    let so_far = c.loop-r.invariant in
    let (resource, at, same) = c.resource_text.ensures in
    record {
      count = ap (λ (all : List Bool). length all) c.in_ok-push.ensures.items ∙ length-append matches (matched ∷ []) ∙ ap (λ n. n + 1) so_far.count;
      are = λ element covers.
          let own : TellsMayMatch world (Some element) c.loop-r.r matched = λ other context there does.
          let T : List ℕ → Type 0 = λ text. Any (λ p. Matches p (chars text)) c.args.wide.now in
          c.may_match-matched.ensures.1
          (subst T (sym (same ∙ ap (λ (x : ResourceValue). x.arn) (some_same resource other (sym at ∙ there)))) (covers other.arn context does)) in
          let P : ℕ → Bool → Type 0 = TellsMayMatch world (Some element) in
          let Q : ℕ → Type 0 = λ n. P n matched in
          subst (Tell P) (sym c.in_ok-push.ensures.items) (at_more P matches matched (subst Q (sym so_far.count) own) (so_far.are element covers));
    }
