-- What is told of a listen, once its socket is bound.
use Rattle.std.specs.Prelude.{ℕ, ◌==◌, ◌&&◌, List, [], ◌∷◌, codes, if◌then◌else◌}
use Rattle.remarks.specs.Remarks.{remark_of}

-- a multicast group of a site, 239.255.0.0/16 (E1.31-2018, multicast addressing), is heard only
-- where the machine has joined it
abbrev pub group_words : List ℕ → List ℕ
group_words (first ∷ second ∷ rest) = if (first == 239) && (second == 255)
    then codes ": this machine hears a multicast group only where it has joined it"
    else []
group_words _ = []

-- where it listens, and what is to be known of a multicast group
abbrev pub of_listening : List ℕ → List ℕ → List ℕ
of_listening address host = remark_of (codes "listening at " ∷ address ∷ group_words host ∷ [])
