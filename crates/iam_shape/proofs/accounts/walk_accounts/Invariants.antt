use Rattle.std.proofs.Common.{◌≡◌, length, map, take, drop}
use Rattle.std.specs.List.{AllZip}
use Rattle.serde_json.specs.View.{view}
use Rattle.iam_shape.specs.Texts.{AreFirstPlaces}
use Rattle.iam_shape.specs.Lent.{account_of}
use Rattle.iam_shape.specs.Shape.{account_checks, each, first_bad}
use Rattle.iam_shape.specs.View.{IsAccountView}
use Rattle.iam_shape.proofs.accounts.walk_accounts.Given as goal

-- what is left decides, what was found is said by what was walked, and the map has its ids
abbrev pub invariant-loop-i : goal.invariant-loop-i
invariant-loop-i l = record {
  count : length l.views.items ≡ l.i;
  left : first_bad (each (account_checks (map view l.accounts)) 0 (map view l.accounts))
      ≡ first_bad (each (account_checks (map view l.accounts)) l.i (map view (drop l.i l.accounts)));
  said : AllZip IsAccountView (map view (take l.i l.accounts)) (map account_of l.views.items);
  known : AreFirstPlaces l.ids (map (λ account. account.id) (map account_of l.views.items));
}
