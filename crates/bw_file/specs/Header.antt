-- The header that was read, as lists and numbers.
use Rattle.bw_model.specs.SchemaText.{schema_shape}
use Rattle.bw_file.specs.declared.header.Header.{Header}
use Rattle.bw_file.specs.TableReading.{HeaderShape}

abbrev pub header_shape : Header → HeaderShape
header_shape header =
    record {
      version = header.version;
      layout = header.layout;
      rows = header.rows;
      schema = schema_shape header.schema;
    }
