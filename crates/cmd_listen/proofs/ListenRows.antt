-- What `listen` prints of a few datagrams, evaluated.
use Rattle.cmd_listen.proofs.Terms.{replicate, digits, dmp_layer, framing_layer, root_layer}
use Rattle.cmd_listen.proofs.Terms.{padded_name, Fields, listen_text}
use Rattle.std.specs.Prelude.{◌≡◌, List, [], ◌∷◌, ◌++◌, refl, codes, ℕ}

abbrev cid : List ℕ
cid = 192 ∷ 255 ∷ 238 ∷ 0 ∷ 0 ∷ 0 ∷ 64 ∷ 0 ∷ 128 ∷ 0 ∷ 0 ∷ 0 ∷ 0 ∷ 0 ∷ 225 ∷ 49 ∷ []

abbrev fields : Fields
fields = record {
  cid = cid;
  name = padded_name (codes "cueplayer");
  priority = 100;
  sync = 0;
  sequence = 0;
  options = 0;
  universe = 1;
  start = 0;
}

-- the packet of the smallest show: slot 1 is at 64
abbrev look_one : List ℕ
look_one = root_layer 512 cid ++ framing_layer 512 fields
    ++ dmp_layer 512 0 (64 ∷ replicate 511 0)

-- that packet, the same again, and five bytes; the newest stands first
listen_three : listen_text 1 ((replicate 5 0) ∷ look_one ∷ look_one ∷ [])
    ≡ codes "1 taken 0\n2 ignored OutOfSequence\n3 ignored Unreadable Short\nslots 1:64\n"
unfolding digits
listen_three = refl
