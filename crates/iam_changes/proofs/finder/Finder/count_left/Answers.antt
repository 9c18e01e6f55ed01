use Rattle.std.proofs.Common.{◌≡◌, ℕ, ◌≤◌, ◌<◌, ◌+◌, ◌-◌, ◌*◌, ap, subst, ◌∙◌, arith}
use Rattle.iam_world.specs.World.{world_cells}
use Rattle.iam_changes.specs.Code.Found.{FinderValue, IsLeftCount}
use Rattle.iam_changes.proofs.Products.{count_some, left_beside, pairs_fit, product_fits}
use Rattle.iam_changes.proofs.finder.Finder.count_left.Goals as goal

product : (x y j k : ℕ) → x ≡ j → y ≡ k → x * y ≡ j * k
product x y j k one two = ap (λ n. n * y) one ∙ ap (λ n. j * n) two

pub overflow_mul-had : goal.overflow_mul-had
overflow_mul-had c =
    let own = c.self.inside in
    let cells = c.cells-cells.ensures.value in
    let few = c.cells-cells.ensures.few in
    let some : 0 < world_cells own.world.now = (let not_none = c.if-cells-eq0.false in omega (arith, not_none, cells)) in
    let fits = pairs_fit c.one_triple.ensures.one own.world.now own.other.now own.principals.items own.actions.items own.resources.items own.has_resources own.has_all c.self.invariant some in
    let principals : c.count_some.result ≡ count_some own.principals.items = c.count_some.ensures ∙ ap count_some c.as_slice.ensures.value in
    let actions : c.count_some-2.result ≡ count_some own.actions.items = c.count_some-2.ensures ∙ ap count_some c.as_slice-2.ensures.value in
    let pairs = product c.count_some.result c.count_some-2.result (count_some own.principals.items) (count_some own.actions.items) principals actions in
    omega (arith, fits, pairs, cells, few)

product_is : (c : goal.After-count_some-3) → c.count_some.result * c.count_some-2.result * c.count_some-3.result
    ≡ count_some c.self.inside.principals.items * count_some c.self.inside.actions.items * count_some c.self.inside.resources.items
product_is c =
    let own = c.self.inside in
    let J = count_some own.principals.items in
    let K = count_some own.actions.items in
    let principals : c.count_some.result ≡ J = c.count_some.ensures ∙ ap count_some c.as_slice.ensures.value in
    let actions : c.count_some-2.result ≡ K = c.count_some-2.ensures ∙ ap count_some c.as_slice-2.ensures.value in
    let resources : c.count_some-3.result ≡ count_some own.resources.items = c.count_some-3.ensures ∙ ap count_some c.as_slice-3.ensures.value in
    product (c.count_some.result * c.count_some-2.result) c.count_some-3.result (J * K) (count_some own.resources.items)
    (product c.count_some.result c.count_some-2.result J K principals actions) resources

few_are : (c : goal.After-count_some-3) → c.count_some.result * c.count_some-2.result * c.count_some-3.result ≤ c.cells-cells.result
few_are c =
    let own = c.self.inside in
    let cells = c.cells-cells.ensures.value in
    let product = product_is c in
    let fits = product_fits c.one_triple.ensures.one own.world.now own.other.now own.principals.items own.actions.items own.resources.items own.has_resources own.has_all c.self.invariant in
    omega (arith, fits, product, cells)

pub overflow_mul-had-2 : goal.overflow_mul-had-2
overflow_mul-had-2 c = let few = c.cells-cells.ensures.few in omega (arith, few_are c, few)

pub overflow_sub-result : goal.overflow_sub-result
overflow_sub-result c = few_are c

pub returns-clause-count : goal.returns-clause-count
returns-clause-count c =
    let own = c.self.inside in
    let cells = c.cells-cells.ensures.value in
    let had = c.count_some.result * c.count_some-2.result * c.count_some-3.result in
    let left = c.cells-cells.result - had in
    let total : left + count_some own.principals.items * count_some own.actions.items * count_some own.resources.items ≡ world_cells own.world.now =
    (let product = product_is c in let few = few_are c in omega (arith, product, few, cells)) in
    subst (λ (v : FinderValue). IsLeftCount v.world v.other left) c.self.view_is
    (left_beside c.one_triple.ensures.one own.world.now own.other.now own.principals.items own.actions.items own.resources.items own.has_resources own.has_all left c.self.invariant total)
