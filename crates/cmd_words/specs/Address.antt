-- An address of UDP over IPv4, as a text.
use Rattle.std.specs.Prelude.{ℕ, List, [], ◌∷◌, Option, Some, None, option_map, option_and_then}
use Rattle.std.specs.Prelude.{if◌then◌else◌}
use Rattle.std.specs.List.{list_any, before_first, after_first}
use Rattle.ascii_text.specs.Forms.{is_colon, is_point, whole_of}

-- a number up to 255, a point, and what the form reads behind it
abbrev pub octet_before : (List ℕ → Option (List ℕ)) → List ℕ → Option (List ℕ)
octet_before form text =
    if list_any is_point text
    then option_and_then (λ octet. option_map (λ octets. octet ∷ octets)
    (form (after_first is_point text)))
    (whole_of 255 (before_first is_point text))
    else None

-- the last number, up to 255
abbrev pub last_octet : List ℕ → Option (List ℕ)
last_octet text = option_map (λ octet. octet ∷ []) (whole_of 255 text)

-- `a.b.c.d`: four numbers up to 255 with points between them
abbrev pub host_of : List ℕ → Option (List ℕ)
host_of = octet_before (octet_before (octet_before last_octet))

-- the port of E1.31, ACN_SDT_MULTICAST_PORT (E1.31-2018, defined parameters)
abbrev pub default_port : ℕ
default_port = 5568

-- a host with its port, where both are there
abbrev pub with_port : Option (List ℕ) → Option ℕ → Option (List ℕ × ℕ)
with_port (Some host) (Some port) = Some (host, port)
with_port _ _ = None

-- `a.b.c.d:port`, the port a number up to 65535, or `a.b.c.d` alone with the port of E1.31
abbrev pub address_of : List ℕ → Option (List ℕ × ℕ)
address_of text =
    if list_any is_colon text
    then with_port (host_of (before_first is_colon text))
    (whole_of 65535 (after_first is_colon text))
    else with_port (host_of text) (Some default_port)
