-- Lists that begin with the octets of parts.
use Rattle.std.specs.Prelude.{◌≡◌, ℕ, suc, ◌<◌, List, [], ◌∷◌, ◌++◌, length, map, drop, slice_index, refl}
use Rattle.std.proofs.Common.{sym, ap, subst}
use Rattle.bac_tag.specs.HeadOctets.{Part, octet, Headed}

-- what holds of the rest may say less
pub headed_weaker : (ps : List Part) (A B : List ℕ → Type 0) (b : List ℕ) → ((c : List ℕ) → A c → B c) → Headed ps A b → Headed ps B b
headed_weaker [] A B b to h = to b h
headed_weaker (p ∷ ps) A B [] to h = absurd h
headed_weaker (p ∷ ps) A B (o ∷ b) to h = (h.0, headed_weaker ps A B b to h.1)

-- parts, and others behind them
pub headed_next : (ps qs : List Part) (B : List ℕ → Type 0) (r b : List ℕ) → Headed ps (λ rest. rest ≡ r) b → Headed qs B r → Headed (ps ++ qs) B b
headed_next [] qs B r b h g = subst (Headed qs B) (sym h) g
headed_next (p ∷ ps) qs B r [] h g = absurd h
headed_next (p ∷ ps) qs B r (o ∷ b) h g = (h.0, headed_next ps qs B r b h.1 g)

-- parts alone, and octets behind them
pub headed_then : (ps : List Part) (b r : List ℕ) → Headed ps (λ rest. rest ≡ []) b → Headed ps (λ rest. rest ≡ r) (b ++ r)
headed_then [] b r h = ap (λ (l : List ℕ). l ++ r) h
headed_then (p ∷ ps) [] r h = absurd h
headed_then (p ∷ ps) (o ∷ b) r h = (h.0, headed_then ps b r h.1)

-- the octets of the parts alone, and what stands behind them
pub headed_split : (ps : List Part) (A : List ℕ → Type 0) (b : List ℕ) → Headed ps A b → (front : List ℕ) × (rest : List ℕ) × Headed ps (λ rest. rest ≡ []) front × A rest × (b ≡ front ++ rest)
headed_split [] A b h = ([], b, refl, h, refl)
headed_split (p ∷ ps) A [] h = absurd h
headed_split (p ∷ ps) A (o ∷ b) h = let s = headed_split ps A b h.1 in (o ∷ s.0, s.1, (h.0, s.2), s.3, ap (λ (l : List ℕ). o ∷ l) s.4)

-- octets that are told, and what stands behind them
pub headed_octets : (xs r : List ℕ) → ((k : ℕ) → slice_index (xs ++ r) k < 256) → Headed (map octet xs ++ []) (λ rest. rest ≡ r) (xs ++ r)
headed_octets [] r small = refl
headed_octets (x ∷ xs) r small = ((refl, small 0), headed_octets xs r (λ k. small (suc k)))

-- the parts behind octets stand behind as many
pub behind_octets : (xs : List ℕ) (ps : List Part) (B : List ℕ → Type 0) (b : List ℕ) → Headed (map octet xs ++ ps) B b → Headed ps B (drop (length xs) b)
behind_octets [] ps B b h = h
behind_octets (x ∷ xs) ps B [] h = absurd h
behind_octets (x ∷ xs) ps B (o ∷ b) h = behind_octets xs ps B b h.1
