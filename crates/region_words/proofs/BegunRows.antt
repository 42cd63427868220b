-- The events of a row that may begin in an accepted region may be stored.
use Rattle.std.proofs.Common.{◌≡◌, ℕ, ◌+◌, ◌^◌, ◌<◌, Bool, true, false, length, refl, sym, ap, ◌∙◌, arith, subst, length-append}
use Rattle.std.specs.Prelude.{Option, unwrap_or, flat_map}
use Rattle.std.proofs.lemmas.List.Elements.{All-drop}
use Rattle.std.specs.FinMap as fin
use Rattle.expiring_map.specs.Map.{Map}
use Rattle.kv_pairs.specs.Mapped.{packed, heading, put_item, IsPackable}
use Rattle.change_log.specs.Acts.{applied}
use Rattle.change_log.specs.declared.change.Act.TheVariants as act
use Rattle.meta_record.specs.declared.shown.Shown.TheVariants.{Whole, Header, Last, Damaged}
use Rattle.region_words.specs.Region.{Region, IsRegion, IsAccepted, flag, shown, size_of}
use Rattle.region_words.specs.Rows.{Row, Append, Pack, Clear, Enable, Disable, Restore, Discard, Recover, SizeRepair, MayBegin, CanRewrite, events_of, item_of, append_stores, mark_of, standing, payload_after, size_after}
use Rattle.region_words.specs.Standings.{standing_of}
use Rattle.region_words.specs.Owing.{AreStorable}
use Rattle.region_words.proofs.RowsStand.{header_shown}
use Rattle.region_words.proofs.GrownFiles.{IsFound}
use Rattle.region_words.proofs.Rewritten.{room_after}
use Rattle.region_words.proofs.TextProofs.{text_laws}
use Rattle.region_words.proofs.PackedBytes.{packed_bytes, pack_packs, clear_packs, enable_packs, disable_packs}
use Rattle.region_words.proofs.StaysAccepted.{whole_firm, broken_firm}
use Rattle.region_words.proofs.StorableRows.{known_append_storable, write_back_storable, switch_storable, recover_storable, restore_storable, discard_storable, size_repair_storable, read_below}

some_packed : (on : Bool) (m : Map) → 0 < length (packed on m)
unfolding packed
some_packed on m = omega (arith, length-append heading (flat_map (λ e. put_item on e.0 e.1) (fin.entries m)))

found : (r : Region) (m : Map) (row : Row) → IsRegion r → CanRewrite r m row → IsFound (4 + length (payload_after r m row)) (size_after r m row)
found r m row is can =
    let f = room_after r m row is can in
    record { wanted = f.wanted; is = f.is; roomy = record { room = omega (arith, f.roomy.room); most = f.roomy.most; pages = f.roomy.pages } }

not_last : (r : Region) (n : ℕ) → shown r ≡ Last n → (k : ℕ) → shown r ≡ Whole k → ⊥
not_last r n e k f = let both : Last n ≡ Whole k = sym e ∙ f in absurd cc

not_header : (r : Region) (n : ℕ) → shown r ≡ Header n → (k : ℕ) → shown r ≡ Whole k → ⊥
not_header r n e k f = let both : Header n ≡ Whole k = sym e ∙ f in absurd cc

pub begun_storable : (r : Region) (m : Map) (room : Option ℕ) (who : ℕ) (row : Row) → IsRegion r → IsAccepted r → IsPackable (flag r) m → MayBegin r m room row →
    AreStorable r who (events_of r m who row)
unfolding events_of
begun_storable r m room who (Append a) is ok p (n, whole, has_room, may, need) =
    subst (λ k. AreStorable r who (append_stores (standing_of r k) (item_of (flag r) a) (mark_of r who (Append a)))) (sym (ap (λ s. unwrap_or (size_of s) 0) whole))
    (known_append_storable r who n a is may has_room.1 has_room.0 (whole_firm r n whole has_room.0))
begun_storable r m room who (Pack now need) is ok p b =
    write_back_storable r (standing r) (size_after r m (Pack now need)) (payload_after r m (Pack now need)) (mark_of r who (Pack now need)) who is refl (found r m (Pack now need) is b.2) b.2.0
    (packed_bytes (flag r) (applied m (act.Pack now)) (pack_packs (flag r) m now p)) (some_packed (flag r) (applied m (act.Pack now))) (λ k e. e) refl
begun_storable r m room who Clear is ok p b =
    write_back_storable r (standing r) (size_after r m Clear) (payload_after r m Clear) (mark_of r who Clear) who is refl (found r m Clear is b.1) b.1.0
    (packed_bytes (flag r) (applied m act.Clear) (clear_packs (flag r) m)) (some_packed (flag r) (applied m act.Clear)) (λ k e. e) refl
begun_storable r m room who (Enable now seconds) is ok p b =
    switch_storable r (standing r) (size_after r m (Enable now seconds)) 1 (payload_after r m (Enable now seconds)) (mark_of r who (Enable now seconds)) who is refl (found r m (Enable now seconds) is b.3) b.3.0 (omega arith)
    (packed_bytes true (applied m (act.Enable now seconds)) (enable_packs (flag r) m now seconds b.2 p)) refl
begun_storable r m room who (Disable now) is ok p b =
    switch_storable r (standing r) (size_after r m (Disable now)) 0 (payload_after r m (Disable now)) (mark_of r who (Disable now)) who is refl (found r m (Disable now) is b.2) b.2.0 (omega arith)
    (packed_bytes false (applied m (act.Disable now)) (disable_packs (flag r) m now p)) refl
begun_storable r m room who Restore is ok p b =
    restore_storable r (standing r) (mark_of r who Restore) who is b.1 (broken_firm r is ok (not_last r b.0.0 b.0.1)) refl
begun_storable r m room who Discard is ok p b =
    discard_storable r (standing r) (mark_of r who Discard) who is b.1 (broken_firm r is ok (λ k f. let both : Damaged b.0.0 ≡ Whole k = sym b.0.1 ∙ f in absurd cc)) refl
begun_storable r m room who Recover is ok p b =
    recover_storable r (standing r) (size_after r m Recover) (payload_after r m Recover) (mark_of r who Recover) who is refl (found r m Recover is b.1) b.1.0
    (broken_firm r is ok (λ k f. let both : Damaged b.0.0 ≡ Whole k = sym b.0.1 ∙ f in absurd cc))
    (text_laws.recovers r m (All-drop (λ b. b < 256) 4 r.data_bytes is.data_file.small) is.data_file.most).0 refl
begun_storable r m room who SizeRepair is ok p (n, e) =
    size_repair_storable r (standing r) who is
    (subst (λ k. k < 2 ^ 32) (sym (ap (λ s. unwrap_or (size_of s) 0) e ∙ (header_shown r n e).0)) (read_below r.data_bytes 0 is.data_file.small)) (broken_firm r is ok (not_header r n e))
