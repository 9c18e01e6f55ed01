-- The runs of tiles that workers begin with: they lie one behind the other, within the tiles.
use Rattle.std.proofs.Common.{◌≡◌, ℕ, ◌+◌, ◌*◌, ◌/◌, ◌<◌, ◌≤◌, ap, ◌∙◌, arith}
use Rattle.std.proofs.lemmas.Nat.{le-div}
use Rattle.std.proofs.Math.Nat.{div-mul-le_self, div-le_of_le-mul, div-lt_iff_lt-mul, lt-div-mul-add, mul-div_cancel_left, mul-le-mul_right, zero-div}
use Rattle.iam_crew.specs.Code.Shares.{start_of}

-- a worker starts at or behind the one before it
pub start_up : (tiles workers worker : ℕ) → 0 < workers → start_of tiles workers worker ≤ start_of tiles workers (worker + 1)
unfolding start_of
start_up tiles workers worker some_worker =
    le-div (worker * tiles / workers) ((worker + 1) * tiles) workers some_worker (let e = div-mul-le_self (worker * tiles) workers in omega arith)

-- each worker that there is, and the one behind the last, starts within the tiles
pub start_within : (tiles workers worker : ℕ) → worker ≤ workers → start_of tiles workers worker ≤ tiles
unfolding start_of
start_within tiles workers worker inside = div-le_of_le-mul workers {m = worker * tiles} {n = tiles} (mul-le-mul_right tiles inside)

-- the first worker starts at the first tile, and the one behind the last would start behind the last tile
pub start_first : (tiles workers : ℕ) → start_of tiles workers 0 ≡ 0
unfolding start_of
start_first tiles workers = let none : 0 * tiles ≡ 0 = omega arith in ap (λ (n : ℕ). n / workers) none ∙ zero-div workers

pub start_last : (tiles workers : ℕ) → 0 < workers → start_of tiles workers workers ≡ tiles
unfolding start_of
start_last tiles workers some_worker = mul-div_cancel_left tiles some_worker

-- a worker has its even part of the tiles, or one tile more
pub start_least : (tiles workers worker : ℕ) → 0 < workers → start_of tiles workers worker + tiles / workers ≤ start_of tiles workers (worker + 1)
unfolding start_of
start_least tiles workers worker some_worker =
    le-div (worker * tiles / workers + tiles / workers) ((worker + 1) * tiles) workers some_worker
    (let before = div-mul-le_self (worker * tiles) workers in let part = div-mul-le_self tiles workers in omega arith)

pub start_most : (tiles workers worker : ℕ) → 0 < workers → start_of tiles workers (worker + 1) ≤ start_of tiles workers worker + tiles / workers + 1
unfolding start_of
start_most tiles workers worker some_worker =
    let before : worker * tiles < worker * tiles / workers * workers + workers = lt-div-mul-add some_worker in
    let part : tiles < tiles / workers * workers + workers = lt-div-mul-add some_worker in
    let less = (div-lt_iff_lt-mul {k = workers} {x = (worker + 1) * tiles} {y = worker * tiles / workers + tiles / workers + 2} some_worker).1 (omega arith) in
    omega arith
