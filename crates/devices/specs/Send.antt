-- What a link that tells was offered.
use Rattle.std.specs.Prelude.{ℕ, Bool, List, count_by}

-- one send: the universe, the bytes, and whether it failed
pub record Send : Type 0 where
  pub universe : ℕ
  pub bytes : List ℕ
  pub failed : Bool

-- how many of the sends failed
abbrev pub failures_of : List Send → ℕ
failures_of sends = count_by (λ send. send.failed) sends
