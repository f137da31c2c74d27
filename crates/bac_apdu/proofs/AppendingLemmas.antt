-- What is appended of an APDU is its least spelling.
use Rattle.std.specs.Prelude.{◌≡◌, ℕ, ◌<◌, true, List, [], ◌++◌, length}
use Rattle.std.proofs.Common.{get_or, sym, ◌∙◌, subst, append_assoc}
use Rattle.std.proofs.lemmas.List.{append-nil}
use Rattle.bac_tag.specs.Octets.{IsOctets}
use Rattle.bac_tag.specs.Laws.Octets.{NoGreater-same, octets_front, octets_back}
use Rattle.bac_tag.specs.Spelling.{AppendsLeast}
use Rattle.bac_service.specs.declared.kind.Kind.{Kind}
use Rattle.bac_service.specs.Services.{ServiceValue, SpellsService}
use Rattle.bac_service.specs.Laws.Service.{octets_held}
use Rattle.bac_tag.specs.HeadOctets.{least_head, AreParts}
use Rattle.bac_apdu.specs.Apdus.{ApduValue, head_of, SpellsServiceOf, SpellsBody, SpellsApdu}
use Rattle.bac_tag.proofs.HeadOctetLemmas.{headed_least}

-- the least body behind the least octets of a head
pub appends_headed : (v : ApduValue) (head : List ℕ) {old new : List ℕ} → AreParts (head_of v) → head ≡ least_head (head_of v) → AppendsLeast (SpellsBody v) (old ++ head) new → AppendsLeast (SpellsApdu v) old new
appends_headed v head {old} {new} parts same L = record {
  more = head ++ L.more;
  is_least = rw same (headed_least (head_of v) (SpellsBody v) L.more parts L.is_least);
  new_is = L.new_is ∙ append_assoc old head L.more;
}

-- a body that is one list alone
pub appends_piece : (B : List ℕ → Type 0) (piece : List ℕ) {front new : List ℕ} → B piece → ((c : List ℕ) → B c → c ≡ piece) → new ≡ front ++ piece → AppendsLeast B front new
appends_piece B piece h only e = record { more = piece; is_least = record { member = h; least = λ c k. NoGreater-same piece c (sym (only c k)) }; new_is = e }

-- no body
pub appends_end : (B : List ℕ → Type 0) {front new : List ℕ} → B [] → ((c : List ℕ) → B c → c ≡ []) → new ≡ front → AppendsLeast B front new
appends_end B {front} h only e = appends_piece B [] h only (e ∙ sym (append-nil front))

-- a service of the kind that the APDU carries
pub appends_carried : (k : Kind) (s : ServiceValue) {front new : List ℕ} → s.kind ≡ k → AppendsLeast (SpellsService true 32 s.kind s.choice s) front new → AppendsLeast (SpellsServiceOf k s) front new
appends_carried k s {front} {new} e L = subst (λ (j : Kind). AppendsLeast (SpellsService true 32 j s.choice s) front new) e L

-- ---- what is in a vector of octets is octets

module _ (old head : List ℕ) (new : List ℕ) (small : (k : ℕ) (d : ℕ) → k < length new → get_or new k d < 256) where
  pub head_at_end : new ≡ old ++ head → IsOctets head
  head_at_end e = octets_back old head (subst IsOctets e (octets_held new (λ k lt. small k 0 lt)))

  pub head_in_front : (more : List ℕ) → new ≡ (old ++ head) ++ more → IsOctets head
  head_in_front more e = octets_back old head (octets_front (old ++ head) more (subst IsOctets e (octets_held new (λ k lt. small k 0 lt))))

  pub piece_at_end : (piece : List ℕ) → new ≡ (old ++ head) ++ piece → IsOctets piece
  piece_at_end piece e = octets_back (old ++ head) piece (subst IsOctets e (octets_held new (λ k lt. small k 0 lt)))

-- a head, and a service behind it
pub appends_behind : (v : ApduValue) (k : Kind) (s : ServiceValue) (old head new : List ℕ) → ((k : ℕ) (d : ℕ) → k < length new → get_or new k d < 256) → s.kind ≡ k → (IsOctets head → AreParts (head_of v)) → head ≡ least_head (head_of v)
    → (AppendsLeast (SpellsServiceOf k s) (old ++ head) new → AppendsLeast (SpellsBody v) (old ++ head) new) → AppendsLeast (SpellsService true 32 s.kind s.choice s) (old ++ head) new → AppendsLeast (SpellsApdu v) old new
appends_behind v k s old head new small e parts same body L = appends_headed v head (parts (head_in_front old head new small L.more L.new_is)) same (body (appends_carried k s e L))

-- a head, and a piece behind it
pub appends_segment : (v : ApduValue) (old head new piece : List ℕ) → ((k : ℕ) (d : ℕ) → k < length new → get_or new k d < 256) → (IsOctets head → AreParts (head_of v)) → head ≡ least_head (head_of v)
    → (IsOctets piece → SpellsBody v piece) → ((c : List ℕ) → SpellsBody v c → c ≡ piece) → new ≡ (old ++ head) ++ piece → AppendsLeast (SpellsApdu v) old new
appends_segment v old head new piece small parts same body only e =
    appends_headed v head (parts (head_in_front old head new small piece e)) same (appends_piece (SpellsBody v) piece (body (piece_at_end old head new small piece e)) only e)
