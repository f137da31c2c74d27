-- Lemmas on parts that are laid out one after the other.
use Rattle.std.proofs.Common.{◌≡◌, ℕ, List, [], ◌∷◌, ◌++◌, refl, sym, ap, ◌∙◌, append_assoc, subst}
use Rattle.bac_explain.specs.declared.piece.Piece.{Piece}
use Rattle.bac_explain.specs.declared.cursor.Cursor.{Cursor}
use Rattle.bac_explain.specs.declared.parts.Part.{Part}
use Rattle.bac_explain.specs.Parts.{laid, laid_end, part_end, part_pieces}
use Rattle.bac_explain.specs.PutParts.{PutsParts}
use Rattle.bac_explain.specs.Room.{Puts}
use Rattle.bac_explain.proofs.RoomLemmas.{puts-append}

-- Parts, and then others, end where these end.
laid_end-append : (end place : ℕ) (ps qs : List Part) → laid_end end place (ps ++ qs) ≡ laid_end end (laid_end end place ps) qs
laid_end-append end place [] qs = refl
laid_end-append end place (p ∷ ps) qs = laid_end-append end (part_end end place p) ps qs

-- Parts, and then others, have the pieces of both.
laid-append : (end place : ℕ) (ps qs : List Part) → laid end place (ps ++ qs) ≡ laid end place ps ++ laid end (laid_end end place ps) qs
laid-append end place [] qs = refl
laid-append end place (p ∷ ps) qs =
    let next = part_end end place p in
    ap (λ z. part_pieces end place p ++ z) (laid-append end next ps qs) ∙ sym (append_assoc (part_pieces end place p) (laid end next ps) (laid end (laid_end end next ps) qs))

-- Parts were put, and then others.
pub parts_append : (ps qs : List Part) (end : ℕ) (from mid to : Cursor) (old between new : List Piece) → PutsParts ps end from old mid between → PutsParts qs end mid between to new → PutsParts (ps ++ qs) end from old to new
parts_append ps qs end from mid to old between new first second =
    let moved : laid end (laid_end end from.place ps) qs ≡ laid end mid.place qs = ap (λ place. laid end place qs) (sym first.ends) in
    let all : laid end from.place (ps ++ qs) ≡ laid end from.place ps ++ laid end mid.place qs = laid-append end from.place ps qs ∙ ap (λ z. laid end from.place ps ++ z) moved in
    record {
      puts = subst (λ pieces. Puts pieces old from.count new to.count) (sym all) (puts-append (laid end from.place ps) (laid end mid.place qs) old between new from.count mid.count to.count first.puts second.puts);
      ends = second.ends ∙ ap (λ place. laid_end end place qs) first.ends ∙ sym (laid_end-append end from.place ps qs);
      ready = second.ready;
    }
