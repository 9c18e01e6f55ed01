-- Requests as they are kept, and what is known of a line on the way.
use Rattle.std.specs.Prelude.{◌≡◌, ◌≢◌, ◌⊎◌, ℕ, zero, suc, ◌≤◌, List, [], ◌∷◌, ◌++◌, All, length, map, unwrap_or}
use Rattle.std.specs.List.{slice_get, sum_by}
use Rattle.serde_json.specs.Data.{Data}
use Rattle.iam_context.specs.Context.{ContextValue}
use Rattle.iam_context.specs.declared.fault.ContextFault.{ContextFault}
use Rattle.iam_context.specs.declared.fault.ContextFault.TheVariants as f
use Rattle.iam_layers.specs.Own.{IsFaultAt}
use Rattle.iam_world.specs.World.{WorldValue}
use Rattle.iam_world.specs.WorldFault.{IsJson}
use Rattle.iam_asked.specs.Code.Found.{HasNumbers, IsSaidFault}
use Rattle.iam_asked.specs.Request.{AskedValue, IsWithin, RequestsValue}
use Rattle.iam_asked.specs.Said.{IsSaid, IsShort, SaidValue}
use Rattle.iam_asked.specs.Size.{AreKeysOf, AreLarge, own_size}
use Rattle.iam_asked.specs.declared.asked.Asked.{Asked}
use Rattle.iam_asked.specs.declared.fault.LineFault.{LineFault}
use Rattle.iam_asked.specs.declared.fault.LineFault.TheVariants.{BadShape, Context, ContextsTooLarge, OutOfMemory}
use Rattle.iam_asked.specs.declared.entry.Entry.{Entry}

-- the context with this number, from 1 on; 0 stands for no keys
abbrev pub own_of : List ContextValue → ℕ → ContextValue
own_of contexts zero = []
own_of contexts (suc n) = unwrap_or (slice_get contexts n) []

-- the request of an entry
abbrev pub asked_of : List ContextValue → Entry → AskedValue
asked_of contexts entry = record {
  principal = entry.principal;
  action = entry.action;
  resource = entry.resource;
  own = own_of contexts entry.context;
}

-- the requests of entries
abbrev pub requests_of : WorldValue → List Entry → List ContextValue → RequestsValue
requests_of world entries contexts = record { world = world; asked = map (asked_of contexts) entries }

-- the requests of entries, of which there are not too many, and their contexts, each kept once, no more than may be
pub record AreKept (world : WorldValue) (entries : List Entry) (contexts : List ContextValue) (size : ℕ) : Type 0 where
  pub within : All (IsWithin world) (map (asked_of contexts) entries)
  pub contexts_are : All (λ entry. entry.context ≤ length contexts) entries
  pub few : length entries ≤ 16777216
  pub size_is : size ≡ sum_by own_size contexts
  pub most : size ≤ 67108864
  pub keys : AreKeysOf (map (asked_of contexts) entries) contexts

-- the keys of a request have a fault, or are clean and too large with those before
abbrev pub IsOwnFault : RequestsValue → AskedValue → LineFault → Type 0
IsOwnFault before asked fault =
    ((found : ContextFault) × (fault ≡ Context found) × (asked.own ≢ [])
    × IsFaultAt before.world asked.principal asked.resource asked.own found)
    ⊎ ((fault ≡ ContextsTooLarge) × IsWithin before.world asked × AreLarge (before.asked ++ asked ∷ []))

-- the fault of a line where its context has this one
abbrev pub fault_of : ContextFault → LineFault
fault_of f.KeyTwice = Context f.KeyTwice
fault_of f.DerivedKeyGiven = Context f.DerivedKeyGiven
fault_of f.OutOfMemory = OutOfMemory

-- the JSON value says these numbers and these keys
abbrev pub IsFoundOf : WorldValue → Data → Asked → ContextValue → Type 0
IsFoundOf world d asked own = (said : SaidValue) × IsSaid d said × HasNumbers world said asked × (own ≡ said.own)

-- a line says them
abbrev pub IsFoundIn : WorldValue → List ℕ → Asked → ContextValue → Type 0
IsFoundIn world line asked own = IsShort line × ((d : Data) × IsJson line d × IsFoundOf world d asked own)

-- the JSON value has not the shape of a request, or what it says has this fault
abbrev pub IsUnfound : WorldValue → Data → LineFault → Type 0
IsUnfound world d fault =
    ((fault ≡ BadShape) × ((said : SaidValue) → ¬ IsSaid d said)) ⊎ ((said : SaidValue) × IsSaid d said × IsSaidFault world said fault)
