use Rattle.iam_shape.proofs.SmallViews.{few}
use Rattle.iam_shape.proofs.laws.few_documents.Goals as goal

pub returns : goal.returns
returns c = few c.read_is_small.ensures c.list_is_small.ensures c.member_is_smaller.ensures c.item_is_smaller.ensures
