-- What a link over memory keeps, as contracts see it.
use Rattle.devices.specs.Send.{Send}
use Rattle.devices.specs.declared.memory.link.MemorySend.{MemorySend}

-- one send
abbrev pub send_of : MemorySend → Send
send_of kept = record { universe = kept.universe; bytes = kept.bytes.items; failed = kept.failed }
