-- The text of what the exchange puts out and records.
use Rattle.std.specs.Prelude.{ℕ, codes, List, [], ◌∷◌, ◌++◌, flat_map}
use Rattle.hex.specs.Hex.{encode_lower}
use Rattle.xp_frames.specs.Frame.{frame}
use Rattle.xp_packets.specs.Writing.{written}
use Rattle.xp_packets.specs.declared.modulus.Modulus.{Modulus}
use Rattle.xp_charge.specs.Text.{field, name_of, record_text}
use Rattle.xp_subs.specs.Tables.{Tables, modulus_of}
use Rattle.xp_step.specs.declared.entry.Entry.{Entry}
use Rattle.xp_step.specs.declared.output.Output.{Output}
use Rattle.xp_step.specs.declared.output.Put.{Put}
use Rattle.xp_step.specs.declared.output.Put.TheVariants.{Send, Close}
use Rattle.xp_step.specs.InForce.{last_of}

module _ {A : Type 0} where
  -- a packet that is put out, as a frame of its line; a close is no text
  abbrev pub put_text : List ℕ → Modulus → Put A → List ℕ
  put_text name modulus (Send identifier packet) =
      codes "out" ++ field name ++ field (encode_lower (frame (written modulus identifier packet))) ++ 10 ∷ []
  put_text name modulus Close = []

  abbrev pub output_text : Tables → Output A → List ℕ
  output_text tables output =
      put_text (name_of tables output.line) (modulus_of tables output.line) output.outgoing.put

  -- the packets that an entry puts out, then its records
  abbrev pub entry_text : Tables → Entry A → List ℕ
  entry_text tables entry =
      flat_map (output_text tables) entry.outputs ++ flat_map (record_text tables) entry.records.items

  -- the same of entries, where the first of them finds these tables in force, and each the last that came before it
  abbrev pub text_of : Tables → List (Entry A) → List ℕ
  text_of force [] = []
  text_of force (entry ∷ entries) = entry_text force entry ++ text_of (last_of force entry.tables.items) entries
