use Rattle.cmd_explain.proofs.Terms.{◌≡◌, ℕ, zero, suc, false, get_or, refl, replicate}
use Rattle.cmd_explain.proofs.channels.no_channels.Goals as goal

none_marked : (n i : ℕ) → get_or (replicate n false) i false ≡ false
none_marked zero i = refl
none_marked (suc n) zero = refl
none_marked (suc n) (suc i) = none_marked n i

pub returns : goal.returns
returns c = none_marked 4097
