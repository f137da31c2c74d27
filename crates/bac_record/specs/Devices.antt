-- What a call of a device does to its counts. An Input has left, the octets that its reads will give from here on. An Output has
-- taken, the octets that it has taken. Either may be unknown, and then no clause says anything of it. An Input counts the octets
-- that it has given, and both count their failures.
use Rattle.std.specs.Prelude.{◌≡◌, ◌⊎◌, ℕ, ◌+◌, ◌-◌, ◌^◌, ◌<◌, min, List, length, Result, MatchResult}

-- The largest count of failures, 2^64 - 1.
abbrev pub LARGEST : ℕ
LARGEST = 2 ^ 64 - 1

-- The count rises by one, or stays if it is the largest, 2^64 - 1.
abbrev pub CountsOne : ℕ → ℕ → Type 0
CountsOne old new = (new ≡ old + 1) ⊎ ((old ≡ LARGEST) × (new ≡ LARGEST))

-- The count rose, or is the largest, 2^64 - 1.
abbrev pub HasRisen : ℕ → ℕ → Type 0
HasRisen old new = (old < new) ⊎ (new ≡ LARGEST)

-- A read counts the octets that it gave, up to the largest count, 2^64 - 1. If it failed, it gave none.
abbrev pub ReadGives : {E : Type 0} → ℕ → ℕ → Result ℕ E → Type 0
ReadGives old new result = MatchResult result (λ n. new ≡ min (old + n) LARGEST) (λ _. new ≡ old)

-- A read counts one failure if it failed, and else the count stays.
abbrev pub ReadCounts : {E : Type 0} → ℕ → ℕ → Result ℕ E → Type 0
ReadCounts old new result = MatchResult result (λ _. new ≡ old) (λ _. CountsOne old new)

-- A write counts one failure if it failed, or took none of the octets though there were some, and else the count stays.
abbrev pub WriteCounts : {E : Type 0} → ℕ → ℕ → Result ℕ E → List ℕ → Type 0
WriteCounts old new result octets = MatchResult result
    (λ n. (0 < n → new ≡ old) × (length octets ≡ 0 → new ≡ old) × (n ≡ 0 → 0 < length octets → CountsOne old new))
    (λ _. CountsOne old new)
