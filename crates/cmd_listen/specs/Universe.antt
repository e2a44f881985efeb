-- A universe that is watched: what is known of it, what a line changes, and what is told then.
use Rattle.std.specs.Prelude.{ℕ, ◌==◌, List, [], ◌++◌, if◌then◌else◌, codes, bytes_eq}
use Rattle.std.specs.Prelude.{replicate, Result, Ok, Err}
use Rattle.sacn_packet.specs.Reading.{front_packet}
use Rattle.sacn_packet.specs.Wire.{WirePacket}
use Rattle.sacn_receiver.specs.declared.answer.Ignored.{Ignored}
use Rattle.sacn_receiver.specs.declared.answer.Taken.{Taken}
use Rattle.sacn_receiver.specs.Source.{Entry}
use Rattle.sacn_receiver.specs.Shown.{shown_slots}
use Rattle.sacn_receiver.specs.Taking.{answer, history_after, is_termination}
use Rattle.sacn_receiver.specs.Replies.{slots_line}
use Rattle.cmd_listen.specs.declared.instant.Instant.{Instant}
use Rattle.cmd_listen.specs.declared.source.Source.{Source}
use Rattle.cmd_listen.specs.declared.text.Head.{Head}
use Rattle.cmd_listen.specs.Ignored.{with_one_more, counts_text, ignored_place, none_counted}
use Rattle.cmd_listen.specs.Sources.{changes, line_head, here, source_of, with_source, without_cid}

-- what is known: the packets that the source rule accepted, the live sources, the datagrams that
-- were ignored and not told of yet, and the slots that were told last
pub record Knowledge : Type 0 where
  pub universe : ℕ
  pub heard : List Entry
  pub sources : List Source
  pub counts : List ℕ
  pub slots : List ℕ

-- nothing yet
abbrev pub new_known : ℕ → Knowledge
new_known universe = record {
  universe = universe;
  heard = [];
  sources = [];
  counts = none_counted;
  slots = replicate 512 0;
}

abbrev pub head : ℕ → ℕ → Head
head moment universe = record { moment = moment; universe = universe }

-- ---- the clock: counts are told and begin anew, and sources fall silent

abbrev pub counts_after : Instant → List ℕ → List ℕ
counts_after i counts = if i.tells then none_counted else counts

abbrev pub told_counts : Instant → ℕ → List ℕ → List ℕ
told_counts i universe counts =
    if i.tells then counts_text (head i.moment universe) counts else []

abbrev pub after_wait : Instant → Knowledge → Knowledge
after_wait i k = record k {
  counts = counts_after i k.counts;
  sources = here i.moment k.sources;
}

abbrev pub waited_text : Instant → Knowledge → List ℕ
waited_text i k =
    told_counts i k.universe k.counts
    ++ changes (head i.moment k.universe) (codes "gone") k.sources (here i.moment k.sources)

-- ---- a datagram, which a receiver with room for four sources takes or ignores

-- a termination ends its source
abbrev pub sources_with : ℕ → WirePacket → List Source → List Source
sources_with t p sources =
    if is_termination p then without_cid p.fields.cid sources
    else with_source (source_of t p) sources

abbrev pub sources_by : Result Taken Ignored → ℕ → List ℕ → List Source → List Source
sources_by (Ok taken) t datagram sources = sources_with t (front_packet datagram) sources
sources_by (Err reason) t datagram sources = sources

abbrev pub counts_by : Result Taken Ignored → List ℕ → List ℕ → List ℕ
counts_by (Ok taken) datagram counts = counts
counts_by (Err reason) datagram counts = with_one_more (ignored_place datagram reason) counts

abbrev pub universe_answer : Knowledge → ℕ → List ℕ → Result Taken Ignored
universe_answer k t datagram = answer 4 k.universe k.heard t datagram

abbrev pub after_datagram : ℕ → List ℕ → Knowledge → Knowledge
after_datagram t datagram k = record k {
  heard = history_after 4 k.universe k.heard t datagram;
  sources = sources_by (universe_answer k t datagram) t datagram k.sources;
  counts = counts_by (universe_answer k t datagram) datagram k.counts;
}

abbrev pub text_by : Result Taken Ignored → ℕ → List ℕ → Knowledge → List ℕ
text_by (Ok taken) t datagram k =
    changes (head t k.universe) (codes "ended") k.sources
    (sources_with t (front_packet datagram) k.sources)
text_by (Err reason) t datagram k = []

abbrev pub met_text : ℕ → List ℕ → Knowledge → List ℕ
met_text t datagram k = text_by (universe_answer k t datagram) t datagram k

-- ---- a look at the slots

abbrev pub after_look : ℕ → Knowledge → Knowledge
after_look t k = record k { slots = shown_slots k.heard t }

abbrev pub looked_text : ℕ → Knowledge → List ℕ
looked_text t k =
    if bytes_eq k.slots (shown_slots k.heard t) then []
    else line_head (head t k.universe) ++ slots_line (shown_slots k.heard t)

-- ---- a line: the clock, then a datagram that is for the universe, then a look where it is time

abbrev pub met_after : Instant → List ℕ → Knowledge → Knowledge
met_after i datagram k = if i.to == k.universe then after_datagram i.moment datagram k else k

abbrev pub looked_after : Instant → Knowledge → Knowledge
looked_after i k = if i.looks then after_look i.moment k else k

abbrev pub known_after : Instant → List ℕ → Knowledge → Knowledge
known_after i datagram k = looked_after i (met_after i datagram (after_wait i k))

abbrev pub told_met : Instant → List ℕ → Knowledge → List ℕ
told_met i datagram k = if i.to == k.universe then met_text i.moment datagram k else []

abbrev pub told_looked : Instant → Knowledge → List ℕ
told_looked i k = if i.looks then looked_text i.moment k else []

abbrev pub told_text : Instant → List ℕ → Knowledge → List ℕ
told_text i datagram k =
    waited_text i k ++ told_met i datagram (after_wait i k)
    ++ told_looked i (met_after i datagram (after_wait i k))
