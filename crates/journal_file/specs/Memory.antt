-- A file in memory.
use Rattle.std.specs.Prelude.{◌≡◌, ◌⊎◌, ℕ, List, [], ◌∷◌, take, Vec}
use Rattle.std.specs.declared.alloc.Global.{Global}
use Rattle.journal_file.specs.declared.memory.Memory.{Memory}
use Rattle.journal_file.specs.declared.memory.UnreadMemory.{UnreadMemory}

-- its bytes
abbrev pub memory_bytes : Memory → List ℕ
memory_bytes memory = memory.bytes.items

-- these bytes are one of some contents
abbrev pub HadBeen : List (Vec ℕ Global) → List ℕ → Type 0
HadBeen [] bytes = ⊥
HadBeen (content ∷ past) bytes = (bytes ≡ content.items) ⊎ HadBeen past bytes

-- what was read of it
abbrev pub memory_read : UnreadMemory → List ℕ
memory_read unread = take unread.at unread.file.bytes.items

-- the file that is read
abbrev pub memory_file : UnreadMemory → Memory
memory_file unread = unread.file
