-- What a worker keeps from turn to turn, and what all workers together bring back.
use Rattle.std.proofs.Common.{◌≡◌, ℕ, zero, suc, ◌+◌, ◌*◌, ◌<◌, ◌⊎◌, ◌≤◌, List, [], ◌∷◌, map, All, inl, inr, ⊎_elim, refl, sym, subst, arith}
use Rattle.std.specs.List.{flat_map, range_with_len}
use Rattle.std.proofs.lemmas.List.Elements.{All-head, All-tail, All-map, All-push, All-append, All-weaker, All-nil}
use Rattle.iam_lanes.specs.Lanes.{LanesId, SeatView}
use Rattle.iam_lanes.specs.Work.{WorkId, fresh}
use Rattle.iam_crew.specs.declared.worker.Made.{Made}
use Rattle.iam_crew.specs.declared.worker.Done.{Done}
use Rattle.iam_crew.specs.Bound.{BoundView, floor_of}
use Rattle.iam_crew.specs.Code.Worker.{AreGiven, IsDone, IsFresh, IsOwn, IsReady, IsUntouched}
use Rattle.iam_crew.specs.Code.Runs.{IsDealt}
use Rattle.iam_crew.specs.declared.seats.Seats.{Seats}

-- the seats of a work that was opened are its own, and have done nothing
pub own_seats : (work : WorkId) (from n : ℕ) → from + n ≤ work.seats → All (IsUntouched work) (map (fresh work) (range_with_len from n))
own_seats work from zero inside = All-nil (IsUntouched work)
own_seats work from (suc n) inside =
    All-append (IsUntouched work) (fresh work from ∷ []) (map (fresh work) (range_with_len (from + 1) n))
    (All-push (IsUntouched work) [] (fresh work from) (All-nil (IsUntouched work)) ((refl, omega arith), refl, refl))
    (own_seats work (from + 1) n (omega arith))

-- what a worker begins with
pub is_ready : (lanes : LanesId) (work : WorkId) (seats : Seats) → IsFresh lanes seats.bound → IsOwn work seats.work → seats.work.marked ≡ []
    → IsDealt work.grains work.seats seats.work seats.in_hand
    → seats.in_hand.first + seats.in_hand.count ≤ work.grains
    → IsReady lanes work seats
unfolding IsReady
is_ready lanes work seats bound own marked dealt inside = (bound, own, marked, dealt, inside)

pub begun_with : (lanes : LanesId) (work : WorkId) (seats : Seats) → IsReady lanes work seats
    → IsFresh lanes seats.bound × IsOwn work seats.work × (seats.work.marked ≡ []) × (seats.in_hand.first + seats.in_hand.count ≤ work.grains)
unfolding IsReady
begun_with lanes work seats ready = (ready.0, ready.1, ready.2, ready.4)

-- a worker that began with all its turns may stop
pub may_stop : (tiles before after idle : ℕ) → (after ≡ before + (2 * tiles + 1)) ⊎ ((idle + 65_536 ≤ 1_048_576) ⊎ (idle ≡ 0))
    → (2 * tiles < after) ⊎ (idle + 65_536 ≤ 1_048_576)
may_stop tiles before after idle over = ⊎_elim
    (λ turns. inl (omega (arith, turns)))
    (λ found. inr (⊎_elim (λ some_left. some_left) (λ none_left. omega (arith, none_left)) found))
    over

module _ {O : Type 0} (tiles : ℕ) (lanes : LanesId) (offers : ℕ → Type 0) (gives : ℕ → O → ℕ → Type 0) where
  -- no output yet, and no offer
  pub makes_none : (bound : BoundView) (made : List (Made O)) → bound.of ≡ lanes → bound.offers ≡ [] → made ≡ [] → AreGiven tiles lanes offers gives bound made
  makes_none bound made same nothing none =
      let Below : Made O → Type 0 = λ m. m.tile < tiles in
      let Given : Made O → Type 0 = λ m. (low : ℕ) → low ≤ bound.floor → gives m.tile m.output low in
      record {
        same = same;
        within = subst (λ (ms : List (Made O)). All Below ms) (sym none) (All-nil Below);
        given = subst (λ (ms : List (Made O)). All Given ms) (sym none) (All-nil Given);
        offered = subst (λ (cells : List ℕ). All offers cells) (sym nothing) (All-nil offers);
      }

  -- the seats of the workers are of these lanes
  pub seats_same : (ds : List (Done O)) → All (IsDone tiles lanes offers gives) ds → All (λ s. s.lanes ≡ lanes) (map (λ d. d.seat) ds)
  seats_same ds done = All-map (λ (s : SeatView). s.lanes ≡ lanes) (λ (d : Done O). d.seat) ds (λ k d h. (done k d h).given.same)

  -- and may offer what they offered
  pub seats_offer : (ds : List (Done O)) → All (IsDone tiles lanes offers gives) ds → All (λ s. All offers s.offers) (map (λ d. d.seat) ds)
  seats_offer ds done = All-map (λ (s : SeatView). All offers s.offers) (λ (d : Done O). d.seat) ds (λ k d h. (done k d h).given.offered)

  -- what each worker made holds of what all made
  all_made : (P : Made O → Type 0) (ds : List (Done O)) → All (λ d. All P d.made.items) ds → All P (flat_map (λ d. d.made.items) ds)
  all_made P [] all = All-nil P
  all_made P (d ∷ ds) all =
      All-append P d.made.items (flat_map (λ (u : Done O). u.made.items) ds) (All-head (λ (u : Done O). All P u.made.items) d ds all) (all_made P ds (All-tail (λ (u : Done O). All P u.made.items) d ds all))

  -- what all workers made lies within the tiles
  pub all_within : (ds : List (Done O)) → All (IsDone tiles lanes offers gives) ds → All (λ m. m.tile < tiles) (flat_map (λ d. d.made.items) ds)
  all_within ds done = all_made (λ (m : Made O). m.tile < tiles) ds (λ k d h. (done k d h).given.within)

  -- what all workers made is given at a bound that is at or below each floor
  pub all_given : (bound : ℕ) (ds : List (Done O)) → All (IsDone tiles lanes offers gives) ds → All (λ s. bound ≤ floor_of s) (map (λ d. d.seat) ds)
      → All (λ m. gives m.tile m.output bound) (flat_map (λ d. d.made.items) ds)
  all_given bound [] done low = All-nil (λ (m : Made O). gives m.tile m.output bound)
  all_given bound (d ∷ ds) done low =
      let P : Made O → Type 0 = λ m. gives m.tile m.output bound in
      let first = All-head (IsDone tiles lanes offers gives) d ds done in
      let below = All-head (λ (s : SeatView). bound ≤ floor_of s) d.seat (map (λ (u : Done O). u.seat) ds) low in
      All-append P d.made.items (flat_map (λ (u : Done O). u.made.items) ds)
      (All-weaker (λ (m : Made O). (low : ℕ) → low ≤ floor_of d.seat → gives m.tile m.output low) P (λ m h. h bound below) d.made.items first.given.given)
      (all_given bound ds (All-tail (IsDone tiles lanes offers gives) d ds done) (All-tail (λ (s : SeatView). bound ≤ floor_of s) d.seat (map (λ (u : Done O). u.seat) ds) low))
