use Rattle.std.proofs.Common.{◌≡◌}
use Rattle.iam_equal.proofs.PieceLemmas.{plain_told}
use Rattle.iam_equal.proofs.texts.has_same_pieces.Goals as goal

pub returns-in-Fixed-Fixed : goal.returns-in-Fixed-Fixed
returns-in-Fixed-Fixed c =
    let one = c.args.one.now in
    let other = c.args.other.now in
    plain_told c.is_same_pattern.result (one ≡ other) one other c.in-Fixed-Fixed.one.now c.in-Fixed-Fixed.other.now (λ e. e, λ e. e)
    c.in-Fixed-Fixed.ensures c.in-Fixed-Fixed.ensures' c.is_same_pattern.ensures
