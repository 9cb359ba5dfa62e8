-- A carrier that is there on a test, and absent otherwise. Assumes nothing.
use Rattle.std.proofs.Common.{◌≡◌, ℕ, Bool, true, false, cond, Some, None, Option, refl, arith}
use Rattle.std.specs.Option.{option_map}

pub carrier_there : (test : Bool) (place t : ℕ) → cond test (Some place) None ≡ Some t → (test ≡ true) × (place ≡ t)
carrier_there true place t e = let same : place ≡ t = cc in (refl, same)
carrier_there false place t e = absurd (let z : ◌≡◌ {A = ℕ} 0 1 = cc in omega arith)

-- a carrier of a part, there on a test
pub carrier_of_part : (test : Bool) (o : Option ℕ) (t : ℕ) → cond test o None ≡ Some t → (test ≡ true) × (o ≡ Some t)
carrier_of_part true o t e = (refl, e)
carrier_of_part false o t e = absurd (let z : ◌≡◌ {A = ℕ} 0 1 = cc in omega arith)

-- a carrier that was raised
pub carrier_raised : (f : ℕ → ℕ) (o : Option ℕ) (t : ℕ) → option_map f o ≡ Some t → (x : ℕ) × (o ≡ Some x) × (f x ≡ t)
carrier_raised f None t e = absurd (let z : ◌≡◌ {A = ℕ} 0 1 = cc in omega arith)
carrier_raised f (Some x) t e = let same : f x ≡ t = cc in (x, refl, same)
