-- Who a source is.
use Rattle.std.specs.Prelude.{ℕ, List}

-- the bytes of its component identifier, its name, and its priority
pub record Identity : Type 0 where
  pub cid : List ℕ
  pub name : List ℕ
  pub priority : ℕ
