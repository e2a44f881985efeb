-- The universes of a watch, as texts.
use Rattle.std.specs.Prelude.{ℕ, ◌==◌, List, [], ◌∷◌, ◌++◌, Option, Some, None, Result, Ok, Err}
use Rattle.std.specs.Prelude.{codes, fold, length, nat_le, option_map, slice_get, if◌then◌else◌}
use Rattle.std.specs.List.{list_any}
use Rattle.std.specs.Option.{option_or}
use Rattle.std.specs.Result.{result_err, result_ok}
use Rattle.clap.specs.Words.{Text}
use Rattle.cmd_words.specs.Number.{number_between}
use Rattle.cmd_words.specs.declared.misfit.Form.{Form}
use Rattle.cmd_words.specs.declared.misfit.Form.TheVariants.{Sixteen, Universe, Once}

-- the universes behind those before, or the text that is none of them, and the form that it lacks
abbrev pub Numbers : Type 0
Numbers = Result (List ℕ) (Text × Form × Text)

-- a universe behind those before, where the text names one, and none of them
abbrev pub named_behind : List ℕ → Text → Option ℕ → Numbers
named_behind before text None = Err (codes "UNIVERSE", Universe, text)
named_behind before text (Some universe) = if list_any (λ u. u == universe) before
    then Err (codes "UNIVERSE", Once, text) else Ok (before ++ universe ∷ [])

abbrev pub with_universe : Numbers → Text → Numbers
with_universe (Ok before) text = named_behind before text (number_between 1 63999 text)
with_universe (Err misfit) text = Err misfit

-- the universes of texts in order, or the first text that names none, or one once more
abbrev pub read_universes : List Text → Numbers
read_universes texts = fold with_universe (Ok []) texts

-- the universes of a watch: 16 at most, each named once
abbrev pub watch_universes : List Text → Option (List ℕ)
watch_universes texts =
    if nat_le (length texts) 16 then result_ok (read_universes texts) else None

-- the 17th text, or the first that names no universe, or one once more
abbrev pub misfit_of_universes : List Text → Option (Text × Form × Text)
misfit_of_universes texts =
    option_or (option_map (λ text. (codes "UNIVERSE", Sixteen, text)) (slice_get texts 16))
    (result_err (read_universes texts))
