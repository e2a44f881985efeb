-- The fault that a call answers is handed on.
use Rattle.cmd_listen.proofs.Terms.{◌≡◌, Result, IfErr, IsErrAnd, err_from_is_err_and, WatchFault}

-- what holds of the fault that `?` hands on holds of the answer
pub handed_on : {T : Type 0} (r : Result T WatchFault) (Q : WatchFault → Type 0)
    {fault : WatchFault}
    → IsErrAnd r (λ y. y ≡ fault) → Q fault → IfErr r Q
handed_on r Q is q = let e = err_from_is_err_and r is in rw (e.1, e.2) q
