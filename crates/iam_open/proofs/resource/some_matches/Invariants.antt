use Rattle.std.proofs.Common.{◌≡◌, Any, take, true}
use Rattle.std.specs.List.{flat_map}
use Rattle.iam_match.specs.Statement.{TextMatches}
use Rattle.iam_open.specs.Asks.{is_beyond, text_keys}
use Rattle.iam_open.specs.Code.Certain.{IfOpen, Tells}
use Rattle.iam_open.specs.Code.Known.{AgreeOn}
use Rattle.iam_open.proofs.resource.some_matches.Given as goal

-- of the texts so far
abbrev pub invariant-loop-text : goal.invariant-loop-text
invariant-loop-text l = record {
  told : Tells l.certain (AgreeOn l.known l.context) (λ other. Any (TextMatches other l.resource) (take l.text-index l.texts));
  asks : IfOpen l.certain (is_beyond l.known (flat_map text_keys (take l.text-index l.texts)) ≡ true);
}
