-- The greatest priority, one source on.
use Rattle.cmd_listen.proofs.Terms.{◌≡◌, ℕ, ◌+◌, ◌<◌, max, refl, ap, ◌∙◌, List, [], map, length}
use Rattle.cmd_listen.proofs.Terms.{take, get_or, take_more, max_push, greatest, Source}

-- what is read where there is none
abbrev pub no_source : Source
no_source = record { cid = []; name = []; priority = 0; number = 0; moment = 0 }

abbrev top_of : List Source → ℕ
top_of sources = greatest (map (λ s. s.priority) sources)

pub top_more : (sources : List Source) (i : ℕ) (d : Source) → i < length sources
    → greatest (map (λ s. s.priority) (take (i + 1) sources))
    ≡ max (greatest (map (λ s. s.priority) (take i sources))) (get_or sources i d).priority
top_more sources i d inside =
    ap top_of (take_more sources i d inside)
    ∙ max_push top_of (λ s. s.priority) refl (λ s ss. refl) (take i sources) (get_or sources i d)
